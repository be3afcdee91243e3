-- A query over the rows of one table.
use Rattle.std.specs.Prelude.{pos, negsuc, false, List, [], ◌∷◌, None, ℕ, Bool}
use Rattle.std.specs.List.{list_all}
use Rattle.sqlite.specs.declared.types.Value.TheVariants.{Int}
use Rattle.sqlite.specs.Order.{Row}
use Rattle.sqlite.specs.Term.{Term, lit, holds}
use Rattle.sqlite.specs.Query.{Query, inner, end}
use Rattle.sqlite_value.specs.declared.keys.Key.{Key}
use Rattle.sqlite_schema.specs.declared.program.Program.{Program}

-- SELECT of these columns FROM the table at this place WHERE these hold ORDER BY these LIMIT this
abbrev pub limited_query : ℕ → List Term → List Term → List (Term × Key) → Term → Query
limited_query place conditions columns order limit = record {
  from = inner place end;
  filter = conditions;
  group = None;
  project = columns;
  distinct = false;
  collations = [];
  order = order;
  limit = limit;
  offset = lit (Int (pos 0));
}

-- the same, as all that a text says
abbrev pub limited_program : ℕ → List Term → List Term → List (Term × Key) → Term → Program
limited_program place conditions columns order limit = record {
  lets = [];
  body = limited_query place conditions columns order limit;
}

-- the query without a limit
abbrev pub plain_query : ℕ → List Term → List Term → List (Term × Key) → Query
plain_query place conditions columns order =
    limited_query place conditions columns order (lit (Int (negsuc 0)))

abbrev pub plain_program : ℕ → List Term → List Term → List (Term × Key) → Program
plain_program place conditions columns order =
    limited_program place conditions columns order (lit (Int (negsuc 0)))

-- the query for the first row alone
abbrev pub first_program : ℕ → List Term → List Term → List (Term × Key) → Program
first_program place conditions columns order =
    limited_program place conditions columns order (lit (Int (pos 1)))

-- the row passes WHERE, under these parameters
abbrev pub passes : List Term → Row → Row → Bool
passes conditions params row = list_all (holds (params ∷ row ∷ [])) conditions
