-- What only the code's own functions cite: the sizes at all places, and shares rounded down. Assumes nothing.
use Rattle.std.specs.Prelude.{◌≡◌, ℕ, List, map, length}
use Rattle.std.specs.List.{range_with_len}
use Rattle.sharing.specs.declared.rules.largest_remainder.RoundedDown.{RoundedDown}
use Rattle.sharing.specs.LargestRemainder.{floor_of, remainders, shortfall}

-- the size at each place
abbrev pub sizes_of : (ℕ → ℕ → List ℕ → ℕ → ℕ) → ℕ → ℕ → List ℕ → List ℕ
sizes_of size q r ws = map (size q r ws) (range_with_len 0 (length ws))

-- each share rounded down, and what is then missing
pub record IsRoundedDown (q r : ℕ) (ws : List ℕ) (d : RoundedDown) : Type 0 where
  pub sizes_are : map (λ f. f.size) d.floors.items ≡ map (floor_of q r ws) ws
  pub remainders_are : map (λ f. f.remainder) d.floors.items ≡ remainders r ws
  pub missing_is : d.missing ≡ shortfall r ws
