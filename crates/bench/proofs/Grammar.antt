-- The lines that are understood are the commands' texts.
use Rattle.std.proofs.lemmas.List.{nil_from_length}
use Rattle.std.proofs.Common.{◌≡◌, ℕ, ◌+◌, ◌*◌, ◌≤◌, List, [], ◌∷◌, ◌++◌, Bool, true, false, cond, length, get_or, drop, refl, ap, subst, ◌∙◌, arith, Option, Some, None, option_map, option_and_then, eqb, ltb}
use Rattle.std.proofs.Math.ListN.{length-append}
use lib.Seq.{drop_at}
use borrow.Author.Tests.{le-ltb, eqb-true}
use Rattle.std.proofs.lemmas.Option.{none-some, same_Some}
use Rattle.rules.specs.declared.Line.TheVariants as line
use Rattle.rules.specs.declared.Event.TheVariants as event
use Rattle.bench.specs.declared.read.Command.{Command}
use Rattle.bench.specs.declared.read.Command.TheVariants as command
use Rattle.bench.specs.Read.{numbers, starts_with, Word, Ring, Put, Take, Go, Cell, Copy, Tail, Cut, text, first_word, wants, made, command_of, line_of}
use Rattle.bench.specs.Decimal.{decimal, spaced}
use Rattle.bench.specs.Grammar.{Small, Is, Says, TextIsRead, ReadIsText}
use Rattle.bench.proofs.Decimal.{length_small}
use Rattle.bench.proofs.Numbers.{numbers_read, Stand, numbers_stand}

-- ---- the words
starts_by : (t : Bool) (b x : ℕ) (s k : List ℕ) → eqb b x ≡ t → (starts_with s k ≡ true → s ≡ k ++ drop (length k) s)
    → cond t (starts_with s k) false ≡ true → b ∷ s ≡ x ∷ (k ++ drop (length k) s)
starts_by true b x s k e a h = rw (eqb-true b x e) (ap (λ (y : List ℕ). x ∷ y) (a h))
starts_by false b x s k e a h = cc

starts_sound : (k s : List ℕ) → starts_with s k ≡ true → s ≡ k ++ drop (length k) s
starts_sound [] s h = refl
starts_sound (x ∷ k) [] h = cc
starts_sound (x ∷ k) (b ∷ s) h = starts_by (eqb b x) b x s k refl (starts_sound k s) h

abbrev Begins : List ℕ → Word → Type 0
Begins s w = s ≡ text w ++ drop (length (text w)) s

abbrev IfBegins : List ℕ → Option Word → Type 0
IfBegins s None = Unit {0}
IfBegins s (Some w) = Begins s w

begins_by : (t : Bool) (s : List ℕ) (w : Word) (o : Option Word) → starts_with s (text w) ≡ t → IfBegins s o → IfBegins s (cond t (Some w) o)
begins_by true s w o e a = starts_sound (text w) s e
begins_by false s w o e a = a

first-begins : (s : List ℕ) → IfBegins s (first_word s)
unfolding first_word
first-begins s =
    begins_by _ s Ring _ refl (begins_by _ s Put _ refl (begins_by _ s Take _ refl (begins_by _ s Go _ refl
    (begins_by _ s Cell _ refl (begins_by _ s Copy _ refl (begins_by _ s Tail _ refl (begins_by _ s Cut None refl tt)))))))

-- ---- a command's text is read as that command
spaced-length : (ns : List ℕ) → Small ns → length (spaced ns) ≤ 11 * length ns
spaced-length [] h = omega arith
spaced-length (n ∷ ns) h =
    let a = length_small n h.0 in
    let b = spaced-length ns h.1 in
    omega (arith, length-append (decimal n) (spaced ns))

-- no text of a command has more than 37 bytes
fits : (w : Word) → length (text w) + 11 * wants w ≤ 37
fits Ring = omega arith
fits Put = omega arith
fits Take = omega arith
fits Go = omega arith
fits Cell = omega arith
fits Copy = omega arith
fits Tail = omega arith
fits Cut = omega arith

text_line : (l : List ℕ) (w : Word) (ns : List ℕ) → first_word (text w ++ spaced ns) ≡ Some w → length ns ≡ wants w → Is l w ns
    → line_of l ≡ Some (made w ns)
unfolding line_of command_of
text_line l w ns o k i =
    let e = i.0 in
    let b = spaced-length ns i.1 in
    let f = fits w in
    let g : length l ≤ 40 = let z = ap length e in omega (arith, length-append (text w) (spaced ns)) in
    let u : first_word l ≡ Some w = ap first_word e ∙ o in
    let d : drop (length (text w)) l ≡ spaced ns =
    ap (λ (x : List ℕ). drop (length (text w)) x) e ∙ drop_at (text w) (spaced ns) (length (text w)) refl in
    rw (le-ltb 40 (length l) g, u, d, ← k, numbers_read ns i.1)

pub text_is_read : TextIsRead
unfolding first_word
text_is_read l (command.Ring R n S) i = text_line l Ring (R ∷ n ∷ S ∷ []) refl refl i
text_is_read l (command.Event (event.Put t x)) i = text_line l Put (t ∷ x ∷ []) refl refl i
text_is_read l (command.Event (event.Take t)) i = text_line l Take (t ∷ []) refl refl i
text_is_read l (command.Event (event.Go t)) i = text_line l Go (t ∷ []) refl refl i
text_is_read l (command.Event (event.Back (line.Cell j))) i = text_line l Cell (j ∷ []) refl refl i
text_is_read l (command.Event (event.Back (line.Copy t))) i = text_line l Copy (t ∷ []) refl refl i
text_is_read l (command.Event (event.Back line.Tail)) i = text_line l Tail [] refl refl i
text_is_read l (command.Event (event.Back line.None)) i = absurd i
text_is_read l (command.Event event.Cut) i = text_line l Cut [] refl refl i

-- ---- a line that is read as a command is that command's text
one_of : (ns : List ℕ) → length ns ≡ 1 → ns ≡ get_or ns 0 0 ∷ []
one_of [] h = absurd (omega arith)
one_of (a ∷ ns) h = ap (λ (x : List ℕ). a ∷ x) (nil_from_length ns (omega arith))

two_of : (ns : List ℕ) → length ns ≡ 2 → ns ≡ get_or ns 0 0 ∷ get_or ns 1 0 ∷ []
two_of [] h = absurd (omega arith)
two_of (a ∷ ns) h = ap (λ (x : List ℕ). a ∷ x) (one_of ns (omega arith))

three_of : (ns : List ℕ) → length ns ≡ 3 → ns ≡ get_or ns 0 0 ∷ get_or ns 1 0 ∷ get_or ns 2 0 ∷ []
three_of [] h = absurd (omega arith)
three_of (a ∷ ns) h = ap (λ (x : List ℕ). a ∷ x) (two_of ns (omega arith))

-- a word, and so many numbers after it
abbrev Reads : List ℕ → Word → List ℕ → Type 0
Reads l w ns = Begins l w × Stand (wants w) (drop (length (text w)) l) ns

is_text : (l : List ℕ) (w : Word) (ns ms : List ℕ) → Reads l w ns → ns ≡ ms → Is l w ms
is_text l w ns ms r e = subst (λ (x : List ℕ). Is l w x) e (r.0 ∙ ap (λ (x : List ℕ). text w ++ x) r.1.0, r.1.1.0)

word-says : (w : Word) (l ns : List ℕ) → Reads l w ns → Says l (made w ns)
word-says Ring l ns r = is_text l Ring ns _ r (three_of ns r.1.1.1)
word-says Put l ns r = is_text l Put ns _ r (two_of ns r.1.1.1)
word-says Take l ns r = is_text l Take ns _ r (one_of ns r.1.1.1)
word-says Go l ns r = is_text l Go ns _ r (one_of ns r.1.1.1)
word-says Cell l ns r = is_text l Cell ns _ r (one_of ns r.1.1.1)
word-says Copy l ns r = is_text l Copy ns _ r (one_of ns r.1.1.1)
word-says Tail l ns r = is_text l Tail ns _ r (nil_from_length ns r.1.1.1)
word-says Cut l ns r = is_text l Cut ns _ r (nil_from_length ns r.1.1.1)

numbers_say : (o : Option (List ℕ)) (l : List ℕ) (w : Word) (c : Command) → Begins l w → numbers (wants w) (drop (length (text w)) l) ≡ o
    → option_map (λ ns. made w ns) o ≡ Some c → Says l c
numbers_say None l w c b e q = absurd (none-some _ q)
numbers_say (Some ns) l w c b e q =
    subst (λ (x : Command). Says l x) (same_Some _ _ q) (word-says w l ns (b, numbers_stand (wants w) (drop (length (text w)) l) ns e))

word_says : (o : Option Word) (l : List ℕ) (c : Command) → IfBegins l o → option_and_then (λ w. command_of l w) o ≡ Some c → Says l c
unfolding command_of
word_says None l c b q = absurd (none-some _ q)
word_says (Some w) l c b q = numbers_say (numbers (wants w) (drop (length (text w)) l)) l w c b refl q

line_by : (t : Bool) (o : Option Command) (c : Command) → cond t None o ≡ Some c → o ≡ Some c
line_by true o c q = absurd (none-some _ q)
line_by false o c q = q

pub read_is_text : ReadIsText
unfolding line_of
read_is_text l c e = word_says (first_word l) l c (first-begins l) (line_by (ltb 40 (length l)) _ c e)
