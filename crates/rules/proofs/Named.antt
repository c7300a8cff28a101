-- The code's constants, of the places and of the limits, are those of the definitions.
use mathlib.Core.Path.{◌≡◌, refl}
use Rattle.rules.specs.declared.places.TheConstants.{P1 as code_P1, P2 as code_P2, P3 as code_P3, P4 as code_P4, P5 as code_P5, P6 as code_P6, P7 as code_P7, P8 as code_P8, P9 as code_P9, P10 as code_P10, T1 as code_T1, T2 as code_T2, T3 as code_T3, T4 as code_T4, T5 as code_T5, T6 as code_T6, T7 as code_T7, T8 as code_T8, T9 as code_T9, T10 as code_T10}
use Rattle.rules.specs.declared.TheConstants.Control.{MAX_CELLS as code_cells, MAX_THREADS as code_threads, MAX_TRIES as code_tries, RUN_LIMIT as code_limit}
use Rattle.rules.specs.Numbers.{max_cells, max_threads, max_tries, run_limit}
use Rattle.rules.specs.Places.{P1, P2, P3, P4, P5, P6, P7, P8, P9, P10, T1, T2, T3, T4, T5, T6, T7, T8, T9, T10}

pub put_places_named : (code_P1 ≡ P1) × (code_P2 ≡ P2) × (code_P3 ≡ P3) × (code_P4 ≡ P4) × (code_P5 ≡ P5) × (code_P6 ≡ P6) × (code_P7 ≡ P7) × (code_P8 ≡ P8) × (code_P9 ≡ P9) × (code_P10 ≡ P10)
put_places_named = (refl, refl, refl, refl, refl, refl, refl, refl, refl, refl)

pub take_places_named : (code_T1 ≡ T1) × (code_T2 ≡ T2) × (code_T3 ≡ T3) × (code_T4 ≡ T4) × (code_T5 ≡ T5) × (code_T6 ≡ T6) × (code_T7 ≡ T7) × (code_T8 ≡ T8) × (code_T9 ≡ T9) × (code_T10 ≡ T10)
take_places_named = (refl, refl, refl, refl, refl, refl, refl, refl, refl, refl)

-- the limits that the control record's type has are those of the definitions
pub limits_named : (code_cells ≡ max_cells) × (code_threads ≡ max_threads) × (code_tries ≡ max_tries) × (code_limit ≡ run_limit)
limits_named = (refl, refl, refl, refl)
