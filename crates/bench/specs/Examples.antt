-- Document 01, "ringrun": its example, and inputs on both sides of the edges, each with what is printed.
use Prim.Native.String.{String}
use Rattle.std.specs.Prelude.{List, [], ◌∷◌}

pub record Example : Type 0 where
  pub input : String
  pub printed : String

abbrev pub prints : String → String → Example
prints i p = record { input = i; printed = p }

unfoldable pub examples : List Example
examples =
    -- the page's own
    prints "ring 4 2 16\nput 0 711\ngo 0\ngo 0\ngo 0\ngo 0\nback cell 0\ngo 0\ntake 1\ngo 1\ngo 1\ngo 1\ncut\n"
    "7 ok 0 711\n12 cut 0 0 1 0 1 711\nend 12\n"
    -- no input, an empty line, and a first line that is no ring, that is out of range, that is alone
    ∷ prints "" "refused 1 9\nend 0\n"
    ∷ prints "\nring 1 1 1\n" "refused 1 9\nend 0\n"
    ∷ prints "cut\nring 1 1 1\n" "refused 1 9\nend 0\n"
    ∷ prints "ring 65 8 255\ncut\n" "refused 1 1\nend 0\n"
    ∷ prints "ring 64 8 255" "end 0\n"
    -- the last newline may be missing; two newlines at the end are an empty line
    ∷ prints "ring 1 1 1\ncut" "1 cut 0 0 0 0 0\nend 1\n"
    ∷ prints "ring 1 1 1\ncut\n\n" "1 cut 0 0 0 0 0\nrefused 3 9\nend 1\n"
    -- not understood: a leading zero, a doubled, leading or trailing space, a tab, a carriage return, a second ring, one word more, a number too large
    ∷ prints "ring 1 1 1\ngo 00\ngo 01\ngo  0\n go 0\ngo 0 \ngo\t0\ngo 0\r\nring 1 1 1\ncut 1\nput 0 4294967296\ngo\n"
    "refused 2 9\nrefused 3 9\nrefused 4 9\nrefused 5 9\nrefused 6 9\nrefused 7 9\nrefused 8 9\nrefused 9 9\nrefused 10 9\nrefused 11 9\nrefused 12 9\nend 0\n"
    -- the machine's refusals: no such thread, no such cell or copy, a busy thread, an idle one, item 0
    ∷ prints "ring 2 1 1\ntake 1\nback cell 2\nback copy 1\nput 0 4294967295\ntake 0\ncut\ngo 0\nput 0 0\n"
    "refused 2 2\nrefused 3 3\nrefused 4 3\nrefused 6 4\n2 cut 0 0 0 0 0\nrefused 8 5\nrefused 9 6\nend 2\n"
    -- a line of more than 40 bytes, not understood for its zeros either, and the next one
    ∷ prints "ring 1 1 1\ngo 00000000000000000000000000000000000000000000000000\ntake 0\n" "refused 2 9\nend 1\n"
    -- EMPTY, ITEM and CLOSED
    ∷ prints "ring 1 1 16\ntake 0\ngo 0\ngo 0\ngo 0\ngo 0\ngo 0\ngo 0\ngo 0\nback copy 0\ngo 0\n" "10 empty 0\nend 10\n"
    ∷ prints "ring 1 1 16\nput 0 7\ngo 0\ngo 0\ngo 0\ngo 0\nback cell 0\ngo 0\ntake 0\ngo 0\ngo 0\ngo 0\ngo 0\ngo 0\nback copy 0\ngo 0\n"
    "7 ok 0 7\n15 item 0 7\nend 15\n"
    ∷ prints "ring 1 1 16\nput 0 7\ngo 0\ngo 0\ngo 0\ngo 0\nback cell 0\ngo 0\nput 0 8\ngo 0\ngo 0\ngo 0\ngo 0\ngo 0\nback tail\ngo 0\ncut\n"
    "7 ok 0 7\n15 closed 0\n16 cut 0 0 1 1 1 7\nend 16\n"
    ∷ []
