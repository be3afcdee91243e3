-- The methods of a path, and what each asks for.
use Rattle.std.specs.Prelude.{Option, Some, None}
use Rattle.clear_wire.specs.declared.method.Method.{Method}
use Rattle.clear_wire.specs.declared.method.Method.TheVariants as method
use Rattle.clear_routes.specs.declared.methods.Action.{Action}
use Rattle.clear_routes.specs.declared.methods.Action.TheVariants.{Do, Ask}
use Rattle.clear_routes.specs.declared.allow.Allow.{Allow}
use Rattle.clear_routes.specs.declared.allow.Allow.TheVariants as allow
use Rattle.clear_routes.specs.declared.methods.Methods.{Methods}
use Rattle.clear_routes.specs.declared.methods.Methods.TheVariants.{Get, Post, PostPut}

-- what the method asks for
abbrev pub action_for : Method → Methods → Option Action
action_for method.Get (Get query) = Some (Ask query)
action_for method.Post (Post command) = Some (Do command)
action_for method.Post (PostPut post put) = Some (Do post)
action_for method.Put (PostPut post put) = Some (Do put)
action_for m methods = None

-- which methods they are
abbrev pub allow_of : Methods → Allow
allow_of (Get query) = allow.Get
allow_of (Post command) = allow.Post
allow_of (PostPut post put) = allow.PostPut
