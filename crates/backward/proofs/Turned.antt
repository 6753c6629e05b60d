-- Refusals and items, turned round. Assumes nothing.
use Rattle.std.specs.Prelude.{◌≡◌, ℕ, List, reverse, length, ℤ}
use Rattle.std.proofs.Common.{ap, ◌∙◌, subst}
use Rattle.std.proofs.lemmas.List.{length-reverse, reverse-reverse}
use Rattle.arrayvec.specs.ArrayVec.{ArrayVec, with_items}
use Rattle.arrayvec.proofs.ArrayVecLemmas.{items-with_items}
use Rattle.sharing.specs.declared.outcome.SharingFault.{SharingFault}
use Rattle.sharing.specs.declared.outcome.SharingFault.TheVariants.{Limit, NoWeight}
use Rattle.sharing.specs.Limits.{Within, Shareable}
use Rattle.sharing.specs.Outcome.{Refused}
use Rattle.backward.specs.Turning.{sum-reverse, Shareable-reverse, Within-reverse}

pub within_back : (p : ℤ) (ws : List ℕ) → Within p (reverse ws) → Within p ws
within_back p ws w = subst (Within p) (reverse-reverse ws) (Within-reverse p (reverse ws) w)

pub shareable_back : (p : ℤ) (ws : List ℕ) → Shareable p (reverse ws) → Shareable p ws
shareable_back p ws h none = h (sum-reverse ws ∙ none)

pub refused_back : (p : ℤ) (ws : List ℕ) (f : SharingFault) → Refused p (reverse ws) f → Refused p ws f
refused_back p ws Limit h = λ within. h (Within-reverse p ws within)
refused_back p ws NoWeight h = (within_back p ws h.0, λ shareable. h.1 (Shareable-reverse p ws shareable))

-- a vector whose slice was turned round
pub turned_items : (v : ArrayVec ℕ) (shown written ws : List ℕ) → shown ≡ (with_items v written).items → written ≡ reverse v.items → v.items ≡ ws → shown ≡ reverse ws
turned_items v shown written ws is turned all =
    is ∙ items-with_items v written (ap length turned ∙ length-reverse v.items) ∙ turned ∙ ap reverse all
