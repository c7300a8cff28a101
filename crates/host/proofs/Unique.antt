-- No second outcome satisfies the statement of the exported function.
use Prim.Native.Nat.{ℕ}
use mathlib.Core.Path.{◌≡◌}
use mathlib.Core.List.{List}
use Rattle.rules.proofs.Unique.{only}
use Rattle.host.specs.Bytes.{host_refusal, host_bytes}

pub recover_only : (cells threads tries events : ℕ) (kept : List ℕ) (r r' : ℕ) (left left' : List ℕ)
    → r ≡ host_refusal cells threads tries events kept
    → left ≡ host_bytes cells threads tries events kept
    → r' ≡ host_refusal cells threads tries events kept
    → left' ≡ host_bytes cells threads tries events kept
    → (r ≡ r') × (left ≡ left')
recover_only cells threads tries events kept r r' left left' p q p' q' = (only p p', only q q')
