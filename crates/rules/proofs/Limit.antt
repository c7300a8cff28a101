-- Below the run limit a method that takes any numbers does what its name says.
use Prim.Native.Nat.{◌<◌}
use mathlib.Core.Path.{◌≡◌}
use borrow.Author.Tests.{lt-ltb}
use Rattle.rules.specs.declared.Ring.{Ring}
use Rattle.rules.specs.Numbers.{run_limit}
use Rattle.rules.specs.Record.{counted, drawn, counted_at, drawn_at}

pub counts_below : (g : Ring) → g.events < run_limit → counted_at g ≡ counted g
unfolding counted_at
counts_below g h = rw (lt-ltb g.events run_limit h)

pub draws_below : (g : Ring) → g.head < run_limit → drawn_at g ≡ drawn g
unfolding drawn_at
draws_below g h = rw (lt-ltb g.head run_limit h)
