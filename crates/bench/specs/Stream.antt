-- Document 01, "ringrun": standard input a byte at a time, and the whole output.
use Rattle.std.specs.Prelude.{ℕ, List, [], ◌∷◌, ◌++◌, Bool, true, false, cond, ◌≡◌, length, replicate, eqb, ltb}
use Rattle.rules.specs.Record.{zero_control}
use Rattle.rules.specs.State.{state}
use Rattle.bench.specs.declared.Phase.{Phase}
use Rattle.bench.specs.declared.Phase.TheVariants.{First, Running, Ended}
use Rattle.bench.specs.Bench.{Run, run, ran_line, line_says, end_says}

-- the run up to the last newline, and the line's bytes since
pub record Fed : Type 0 where
  pub run : Run
  pub line : List ℕ

abbrev pub fed_to : Run → List ℕ → Fed
fed_to r l = record { run = r; line = l }

-- of a line that is too long the first 41 bytes are enough
unfoldable pub keep_byte : List ℕ → ℕ → List ℕ
keep_byte l b = cond (ltb (length l) 41) (l ++ (b ∷ [])) l

-- a newline ends the line
unfoldable pub feed_byte : Fed → ℕ → Fed
feed_byte s b = cond (eqb b 10) (fed_to (ran_line s.run s.line) []) (fed_to s.run (keep_byte s.line b))

unfoldable pub says_byte : Fed → ℕ → List ℕ
says_byte s b = cond (eqb b 10) (line_says s.run s.line) []

abbrev pub fed : Fed → List ℕ → Fed
fed s [] = s
fed s (b ∷ bs) = fed (feed_byte s b) bs

abbrev pub says : Fed → List ℕ → List ℕ
says s [] = []
says s (b ∷ bs) = says_byte s b ++ says (feed_byte s b) bs

-- the last newline may be missing; input without any byte is one empty line
abbrev pub is_first : Phase → Bool
is_first First = true
is_first Running = false
is_first Ended = false

abbrev pub is_open : Phase → ℕ → Bool
is_open p n = cond (ltb 0 n) true (is_first p)

unfoldable pub last_ran : Run → List ℕ → ℕ → Run
last_ran r l n = cond (is_open r.phase n) (ran_line r l) r

unfoldable pub last_says : Run → List ℕ → ℕ → List ℕ
last_says r l n = cond (is_open r.phase n) (line_says r l) []

-- after the last line of n bytes, if it is open, comes the event count
unfoldable pub finish_says : Run → List ℕ → ℕ → List ℕ
finish_says r l n = last_says r l n ++ end_says (last_ran r l n)

unfoldable pub finish : Fed → List ℕ
finish s = finish_says s.run s.line (length s.line)

-- the largest ring has 4 · 64 + 8 + 2 numbers
abbrev pub blank_image : List ℕ
blank_image = replicate 266 0

abbrev pub start : Fed
start = fed_to (run First 0 (state zero_control blank_image blank_image)) []

-- what ringrun prints
unfoldable pub output : List ℕ → List ℕ
output input = says start input ++ finish (fed start input)

-- the same fed in parts
abbrev pub joined : List (List ℕ) → List ℕ
joined [] = []
joined (p ∷ ps) = p ++ joined ps

abbrev pub fed_parts : Fed → List (List ℕ) → Fed
fed_parts s [] = s
fed_parts s (p ∷ ps) = fed_parts (fed s p) ps

abbrev pub parts_say : Fed → List (List ℕ) → List ℕ
parts_say s [] = []
parts_say s (p ∷ ps) = says s p ++ parts_say (fed s p) ps

unfoldable pub output_in_parts : List (List ℕ) → List ℕ
output_in_parts ps = parts_say start ps ++ finish (fed_parts start ps)

-- parts of any size print what the whole prints
abbrev pub InParts : Type 0
InParts = (ps : List (List ℕ)) → output_in_parts ps ≡ output (joined ps)

-- a line without a newline in it, however long, and its newline print what the line says, and the rest goes on from there
abbrev pub plain : List ℕ → Bool
plain [] = true
plain (b ∷ l) = cond (eqb b 10) false (plain l)

abbrev pub ByLine : Type 0
ByLine = (r : Run) (l rest : List ℕ) → plain l ≡ true
    → says (fed_to r []) (l ++ (10 ∷ rest)) ≡ line_says r l ++ says (fed_to (ran_line r l) []) rest
