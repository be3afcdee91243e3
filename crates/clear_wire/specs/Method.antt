-- The methods that are told apart.
use Rattle.std.specs.Prelude.{ℕ, Bool, true, false, List, if◌then◌else◌, codes, bytes_eq}
use Rattle.clear_wire.specs.declared.method.Method.{Method}
use Rattle.clear_wire.specs.declared.method.Method.TheVariants.{Get, Head, Post, Put, Other}

-- the method with this name; the case of its letters counts
abbrev pub method_of : List ℕ → Method
method_of name =
    if bytes_eq name (codes "GET") then Get
    else (if bytes_eq name (codes "HEAD") then Head
    else (if bytes_eq name (codes "POST") then Post
    else (if bytes_eq name (codes "PUT") then Put else Other)))

-- a request with this method has an answer without a body
abbrev pub is_head : Method → Bool
is_head Get = false
is_head Head = true
is_head Post = false
is_head Put = false
is_head Other = false

-- a request with this method has to state the length of its body
abbrev pub needs_length : Method → Bool
needs_length Get = false
needs_length Head = false
needs_length Post = true
needs_length Put = true
needs_length Other = false
