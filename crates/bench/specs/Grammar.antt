-- Which lines are understood: a word and its numbers in decimal, each after one space.
use Rattle.std.specs.Prelude.{ℕ, ◌≤◌, ◌≡◌, List, [], ◌∷◌, ◌++◌, Some}
use Rattle.rules.specs.declared.Line.TheVariants as line
use Rattle.rules.specs.declared.Event.TheVariants as event
use Rattle.bench.specs.declared.read.Command.{Command}
use Rattle.bench.specs.declared.read.Command.TheVariants as command
use Rattle.bench.specs.Read.{largest, Word, Ring, Put, Take, Go, Cell, Copy, Tail, Cut, text, line_of}
use Rattle.bench.specs.Decimal.{spaced}

-- numbers up to 4,294,967,295
abbrev pub Small : List ℕ → Type 0
Small [] = Unit {0}
Small (n ∷ ns) = (n ≤ largest) × Small ns

abbrev pub Is : List ℕ → Word → List ℕ → Type 0
Is l w ns = (l ≡ text w ++ spaced ns) × Small ns

-- the line is the text of the command
abbrev pub Says : List ℕ → Command → Type 0
Says l (command.Ring R n S) = Is l Ring (R ∷ n ∷ S ∷ [])
Says l (command.Event (event.Put t x)) = Is l Put (t ∷ x ∷ [])
Says l (command.Event (event.Take t)) = Is l Take (t ∷ [])
Says l (command.Event (event.Go t)) = Is l Go (t ∷ [])
Says l (command.Event (event.Back (line.Cell j))) = Is l Cell (j ∷ [])
Says l (command.Event (event.Back (line.Copy t))) = Is l Copy (t ∷ [])
Says l (command.Event (event.Back line.Tail)) = Is l Tail []
Says l (command.Event (event.Back line.None)) = ⊥
Says l (command.Event event.Cut) = Is l Cut []

-- a command's text is read as that command
abbrev pub TextIsRead : Type 0
TextIsRead = (l : List ℕ) (c : Command) → Says l c → line_of l ≡ Some c

-- a line that is read as a command is that command's text, so no other line is understood
abbrev pub ReadIsText : Type 0
ReadIsText = (l : List ℕ) (c : Command) → line_of l ≡ Some c → Says l c
