-- How much a stream may ask for.
use Rattle.std.specs.Prelude.{ℕ}

-- how many bytes a head may have
abbrev pub head_limit : ℕ
head_limit = 16384

-- how many field lines a head may have
abbrev pub field_line_limit : ℕ
field_line_limit = 64

-- how many bytes a body may have
abbrev pub body_limit : ℕ
body_limit = 1048576

-- how many requests a stream may have
abbrev pub request_limit : ℕ
request_limit = 1000

-- how many times a stream may call its reader
abbrev pub read_limit : ℕ
read_limit = 1000000

-- how many bytes one read asks for
abbrev pub chunk_size : ℕ
chunk_size = 4096
