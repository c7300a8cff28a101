-- Document 01, "ringrun": a line of input, without its newline, as a command, if it is understood.
use Rattle.std.specs.Prelude.{ℕ, zero, suc, ◌+◌, ◌*◌, ◌-◌, List, [], ◌∷◌, Bool, true, false, cond, ◌&&◌, length, get_or, drop, eqb, leb, ltb, Option, Some, None, option_map, option_and_then}
use Rattle.rules.specs.declared.Line.TheVariants as line
use Rattle.rules.specs.declared.Event.TheVariants as event
use Rattle.bench.specs.declared.read.Command.{Command}
use Rattle.bench.specs.declared.read.Command.TheVariants as command
use Rattle.bench.specs.Text.{bytes}

-- whether a byte is a digit, whose value is the byte less 48
abbrev pub is_digit : ℕ → Bool
is_digit b = leb 48 b && leb b 57

-- numbers go up to 4,294,967,295
abbrev pub largest : ℕ
largest = 4294967295

-- the digits at the front of a list, after digits that made v: the number, and what comes after it
abbrev pub number_from : ℕ → List ℕ → Option (ℕ × List ℕ)
number_from v [] = Some (v, [])
number_from v (b ∷ l) =
    cond (is_digit b) (cond (leb (v * 10 + (b - 48)) largest) (number_from (v * 10 + (b - 48)) l) None) (Some (v, b ∷ l))

-- a number without leading zeros at the front of a list: 0 stands alone (past the end is byte 0, which is no digit)
unfoldable pub number : List ℕ → Option (ℕ × List ℕ)
number [] = None
number (b ∷ l) =
    cond (is_digit b) (cond (eqb b 48) (cond (is_digit (get_or l 0 0)) None (Some (0, l))) (number_from (b - 48) l)) None

-- a number after one space
unfoldable pub after_space : List ℕ → Option (ℕ × List ℕ)
after_space [] = None
after_space (b ∷ l) = cond (eqb b 32) (number l) None

-- so many numbers, each after one space, that end the line
abbrev pub numbers : ℕ → List ℕ → Option (List ℕ)
numbers zero [] = Some []
numbers zero (b ∷ l) = None
numbers (suc k) l = option_and_then (λ p. option_map (λ ns. p.0 ∷ ns) (numbers k p.1)) (after_space l)

-- whether a line begins with a word
abbrev pub starts_with : List ℕ → List ℕ → Bool
starts_with s [] = true
starts_with [] (x ∷ k) = false
starts_with (b ∷ s) (x ∷ k) = cond (eqb b x) (starts_with s k) false

-- the words
pub data Word : Type 0 where
  Ring : Word
  Put : Word
  Take : Word
  Go : Word
  Cell : Word
  Copy : Word
  Tail : Word
  Cut : Word

abbrev pub text : Word → List ℕ
text Ring = bytes "ring"
text Put = bytes "put"
text Take = bytes "take"
text Go = bytes "go"
text Cell = bytes "back cell"
text Copy = bytes "back copy"
text Tail = bytes "back tail"
text Cut = bytes "cut"

unfoldable pub first_word : List ℕ → Option Word
first_word s =
    cond (starts_with s (text Ring)) (Some Ring)
    (cond (starts_with s (text Put)) (Some Put)
    (cond (starts_with s (text Take)) (Some Take)
    (cond (starts_with s (text Go)) (Some Go)
    (cond (starts_with s (text Cell)) (Some Cell)
    (cond (starts_with s (text Copy)) (Some Copy)
    (cond (starts_with s (text Tail)) (Some Tail)
    (cond (starts_with s (text Cut)) (Some Cut) None)))))))

-- how many numbers each wants, and the command that it makes with them
abbrev pub wants : Word → ℕ
wants Ring = 3
wants Put = 2
wants Take = 1
wants Go = 1
wants Cell = 1
wants Copy = 1
wants Tail = 0
wants Cut = 0

abbrev pub made : Word → List ℕ → Command
made Ring ns = command.Ring (get_or ns 0 0) (get_or ns 1 0) (get_or ns 2 0)
made Put ns = command.Event (event.Put (get_or ns 0 0) (get_or ns 1 0))
made Take ns = command.Event (event.Take (get_or ns 0 0))
made Go ns = command.Event (event.Go (get_or ns 0 0))
made Cell ns = command.Event (event.Back (line.Cell (get_or ns 0 0)))
made Copy ns = command.Event (event.Back (line.Copy (get_or ns 0 0)))
made Tail ns = command.Event (event.Back line.Tail)
made Cut ns = command.Event event.Cut

unfoldable pub command_of : List ℕ → Word → Option Command
command_of s w = option_map (λ ns. made w ns) (numbers (wants w) (drop (length (text w)) s))

-- the command of a line of any length, and of a line, which has at most 40 bytes
abbrev pub understood : List ℕ → Option Command
understood s = option_and_then (λ w. command_of s w) (first_word s)

unfoldable pub line_of : List ℕ → Option Command
line_of s = cond (ltb 40 (length s)) None (understood s)
