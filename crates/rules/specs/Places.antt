-- Document 01, "Events": the places by their numbers. An idle thread's place is 0, the put places come first, then the take places.
use Rattle.std.specs.Prelude.{ℕ, Bool, ◌&&◌, leb}

abbrev pub P1 : ℕ
P1 = 1

abbrev pub P2 : ℕ
P2 = 2

abbrev pub P3 : ℕ
P3 = 3

abbrev pub P4 : ℕ
P4 = 4

abbrev pub P5 : ℕ
P5 = 5

abbrev pub P6 : ℕ
P6 = 6

abbrev pub P7 : ℕ
P7 = 7

abbrev pub P8 : ℕ
P8 = 8

abbrev pub P9 : ℕ
P9 = 9

abbrev pub P10 : ℕ
P10 = 10

abbrev pub T1 : ℕ
T1 = 11

abbrev pub T2 : ℕ
T2 = 12

abbrev pub T3 : ℕ
T3 = 13

abbrev pub T4 : ℕ
T4 = 14

abbrev pub T5 : ℕ
T5 = 15

abbrev pub T6 : ℕ
T6 = 16

abbrev pub T7 : ℕ
T7 = 17

abbrev pub T8 : ℕ
T8 = 18

abbrev pub T9 : ℕ
T9 = 19

abbrev pub T10 : ℕ
T10 = 20

-- a thread that is putting; one that is putting or taking
abbrev pub putting : ℕ → Bool
putting p = leb P1 p && leb p P10

abbrev pub in_table : ℕ → Bool
in_table p = leb P1 p && leb p T10
