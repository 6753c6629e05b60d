-- What recipients tell back of what they were handed. Assumes nothing.
use Rattle.std.specs.Prelude.{◌≡◌, ℕ, List, map, length, ℤ, Ok}
use Rattle.std.proofs.Common.{sym, ap, ◌∙◌, subst}
use Rattle.std.proofs.lemmas.List.{length-map}
use Rattle.sharing.specs.Limits.{Within}
use Rattle.sharing.specs.Laws.{Apportioned, Lawful}
use Rattle.sharing.specs.Handing.{after_taking, SharedOut}
use Rattle.sharing.proofs.Hands.{told_handed}

-- these are the shares that a rule means, and they keep the laws
abbrev pub AreShares : (ℤ → List ℕ → List ℤ) → ℤ → List ℕ → List ℤ → Type 0
AreShares shares p ws zs = (zs ≡ shares p ws) × Apportioned p ws zs

-- the weights are those of the recipients before, and `tells` is what one tells back as a whole number
pub handed_told : {X U : Type 0} (having : X → U → X) (of : ℤ → U) (before : List X) {shares : ℤ → List ℕ → List ℤ} {p : ℤ} {after : List X} (ws : List ℕ) (tells : X → ℤ)
    → ((x : X) (z : ℤ) → tells (having x (of z)) ≡ z) → Lawful shares → length ws ≡ length before → Within p ws → after ≡ after_taking having of before (shares p ws)
    → AreShares shares p ws (map tells after)
handed_told having of before {shares} {p} ws tells told lawful each within is =
    let laws : Apportioned p ws (shares p ws) = lawful p ws within in
    let are = ap (map tells) is ∙ told_handed having of tells told before (shares p ws) (laws.one_each ∙ each) in
    (are, subst (Apportioned p ws) (sym are) laws)

-- Once a pool has been shared out by a lawful rule, recipients that tell back the share that they took tell the rule's shares.
pub told_back : {X U T : Type 0} {weighs : X → ℕ} {holds : X → U} {having : X → U → X} {amount : U → ℤ} {of : ℤ → U} {shares : ℤ → List ℕ → List ℤ} {p : ℤ} {before after : List X} {x : T}
    (tells : X → U) → ((x : X) (u : U) → tells (having x u) ≡ u) → ((z : ℤ) → amount (of z) ≡ z) → Lawful shares → SharedOut weighs holds having amount of shares p before after (Ok x)
    → AreShares shares p (map weighs before) (map (λ x. amount (tells x)) after)
told_back {weighs = weighs} {having = having} {amount = amount} {of = of} {before = before} tells told back lawful s =
    handed_told having of before (map weighs before) (λ x. amount (tells x)) (λ x z. ap amount (told x (of z)) ∙ back z) lawful (length-map before weighs) s.outcome.0 s.outcome.2
