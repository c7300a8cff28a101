-- Document 01, "Numbers and memory": the limits.
use Rattle.std.specs.Prelude.{ℕ, Bool, ◌&&◌, leb}

abbrev pub max_cells : ℕ
max_cells = 64

abbrev pub max_threads : ℕ
max_threads = 8

abbrev pub max_tries : ℕ
max_tries = 255

abbrev pub run_limit : ℕ
run_limit = 1000000

-- R, n and S are in range
unfoldable pub in_range : ℕ → ℕ → ℕ → Bool
in_range R n S = leb 1 R && (leb R max_cells && (leb 1 n && (leb n max_threads && (leb 1 S && leb S max_tries))))
