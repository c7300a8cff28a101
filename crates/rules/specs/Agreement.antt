-- Demand 3, its first half: at each cut two accounts agree.
use Rattle.std.specs.Prelude.{ℕ, ◌≡◌, List, length}
use Rattle.rules.specs.declared.Found.{Found}
use Rattle.rules.specs.Cut.{queue_of}
use Rattle.rules.specs.Account.{Account, mark_of, queue_by, first_of, past_of}

-- "two accounts agree: the queue that recovery reads from kept memory, and the queue worked out from the answers": numbers and items, pass mark, Head, Tail and count
pub record Agreement (R n : ℕ) (kept : List ℕ) (f : Found) (a : Account) : Type 0 where
  pub queue : queue_of R n kept ≡ queue_by R n a
  pub mark : f.mark ≡ mark_of R n a
  pub head : f.head ≡ first_of (mark_of R n a) (queue_by R n a)
  pub tail : f.tail ≡ past_of (mark_of R n a) (queue_by R n a)
  pub count : f.count ≡ length (queue_by R n a)
