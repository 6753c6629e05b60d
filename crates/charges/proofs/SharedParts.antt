-- A column, before and after a pool is shared among the parties of an area. Assumes nothing.
use Rattle.std.proofs.Common.{◌≡◌, ◌≤◌, ◌==◌, ℕ, List, [], ◌∷◌, map, length, ℤ, pos, Ok, Err, sum, Result, unsigned_abs, refl, sym, ap, ◌∙◌, ⊎_elim, arith}
use mathlib.Core.List.{map-map}
use Rattle.std.specs.List.{All}
use Rattle.std.proofs.lemmas.Bool.{cases_Bool}
use Rattle.std.proofs.lemmas.List.{length-map, get_or-map}
use Rattle.sharing.specs.declared.outcome.SharingFault.{SharingFault}
use Rattle.sharing.specs.Limits.{Within, Shareable}
use Rattle.sharing.specs.Laws.{Apportioned, Lawful}
use Rattle.sharing.specs.Outcome.{Refused}
use Rattle.sharing.specs.Handing.{SharedOut}
use Rattle.sharing.proofs.Parts.{only_no_weight, shares_within}
use Rattle.sharing.proofs.Told.{AreShares, told_back}
use Rattle.deemed.specs.declared.fault.PoolFault.{PoolFault}
use Rattle.deemed.specs.Pools.{NearPart}
use Rattle.rows.specs.declared.figures.Cents.{Cents}
use Rattle.rows.specs.declared.area.Area.{Area}
use Rattle.rows.specs.declared.party.Party.{Party}
use Rattle.charges.specs.declared.claims.Claim.{Claim}
use Rattle.charges.specs.Columns.{parties_in, entries_in, cents_in, weight, weights}
use Rattle.charges.specs.Claims.{claims_in}
use Rattle.charges.specs.Parts.{GivenTo, IsSharedIn}

none_left : {X : Type 0} (xs : List X) → 0 ≡ length xs → [] ≡ xs
none_left [] e = refl
none_left (x ∷ xs) e = absurd (omega arith)

-- who has an entry, where as many entries as parties are of the area
pub firsts-entries_in : (area : ℕ) (parties : List Party) (column : List Cents) → length (entries_in area parties column) ≡ length (parties_in area parties) → map (λ e. e.0) (entries_in area parties column) ≡ parties_in area parties
firsts-entries_in area [] column each = refl
firsts-entries_in area (p ∷ ps) [] each = none_left (parties_in area (p ∷ ps)) each
firsts-entries_in area (p ∷ ps) (c ∷ cs) each =
    ⊎_elim
    (λ e.
    let f = rw e at each in
    rw e (ap (λ l. p ∷ l) (firsts-entries_in area ps cs (omega arith))))
    (λ e. rw e (firsts-entries_in area ps cs (rw e at each)))
    (cases_Bool (p.area == area))

-- each entry is near its part, where the cents of all are apportioned by what their parties weigh
near_each : (pool : ℤ) (weighs : Party → ℕ) (es : List (Party × Cents)) → Apportioned pool (map (λ e. weighs e.0) es) (map (λ e. e.1.0) es)
    → All (λ e. NearPart pool (sum (map (λ e. weighs e.0) es)) (weighs e.0) e.1.0) es
near_each pool weighs es laws = λ i d h.
    let long : length (map (λ (e : Party × Cents). weighs e.0) es) ≡ length es = length-map es (λ e. weighs e.0) in
    rw (← get_or-map (λ e. weighs e.0) es i d 0 h, ← get_or-map (λ e. e.1.0) es i d (pos 0) h)
    (record { near = λ some. laws.near i some (omega arith); none = λ none. laws.no_weight i none (omega arith) })

-- as they are where an area's parties have lawful shares
pub near_in_area : (index : ℕ) (pool : ℤ) (area : Area) (parties : List Party) (column : List Cents) → Apportioned pool (weights index area parties) (cents_in area.id parties column)
    → All (λ e. NearPart pool (sum (weights index area parties)) (weight area.kind index e.0) e.1.0) (entries_in area.id parties column)
near_in_area index pool area parties column laws =
    let es : List (Party × Cents) = entries_in area.id parties column in
    let ws : List ℕ = weights index area parties in
    let each : length es ≡ length (parties_in area.id parties) = sym (length-map es (λ e. e.1.0)) ∙ laws.one_each ∙ length-map (parties_in area.id parties) (weight area.kind index) in
    let weigh : ws ≡ map (λ e. weight area.kind index e.0) es = ap (map (weight area.kind index)) (sym (firsts-entries_in area.id parties column each)) ∙ simp map-map in
    rw weigh (near_each pool (weight area.kind index) es (rw (← weigh) laws))

-- and none is larger than the pool
pub within_each : (pool : ℤ) (es : List (Party × Cents)) → All (λ z. unsigned_abs z ≤ unsigned_abs pool) (map (λ e. e.1.0) es) → All (λ e. unsigned_abs e.1.0 ≤ unsigned_abs pool) es
within_each pool es each = λ i d h.
    let long : length (map (λ (e : Party × Cents). e.1.0) es) ≡ length es = length-map es (λ e. e.1.0) in
    rw (← get_or-map (λ e. e.1.0) es i d (pos 0) h) (each i (pos 0) (omega arith))

weights_are : (index : ℕ) (area : Area) (parties : List Party) (claims : List Claim) → claims ≡ claims_in index area parties → map (λ c. c.weight) claims ≡ weights index area parties
weights_are index area parties claims are = ap (map (λ c. c.weight)) are ∙ simp map-map

-- what `share_out` says of such claims
abbrev pub SharedAmong : {T : Type 0} → (ℤ → List ℕ → List ℤ) → ℤ → List Claim → List Claim → Result T SharingFault → Type 0
SharedAmong shares pool before after r =
    SharedOut (λ c. c.weight) (λ c. c.share) (λ c u. record { weight = c.weight; share = u }) (λ u. u.0) (λ z. record { 0 = z }) shares pool before after r

module _ {shares : ℤ → List ℕ → List ℤ} {index : ℕ} {pool : ℤ} {area : Area} {parties : List Party} {claims : List Claim} (are : claims ≡ claims_in index area parties) where
  pub shared_in_area : Lawful shares → {T : Type 0} (x : T) (before after : List Cents) (given : List Claim) → SharedAmong shares pool claims given (Ok x)
      → GivenTo area.id parties (map (λ c. c.share.0) given) before after → IsSharedIn shares index pool area parties before after (Ok x)
  shared_in_area lawful x before after given s g =
      let ws : List ℕ = weights index area parties in
      let zs : List ℤ = map (λ c. c.share.0) given in
      let f : Shareable pool ws × AreShares shares pool ws zs = rw (← weights_are index area parties claims are) (s.outcome.1, told_back (λ c. c.share) (λ c u. refl) (λ z. refl) lawful s) in
      let laws : Apportioned pool ws (cents_in area.id parties after) = rw g.own f.1.1 in
      record {
        outcome = (f.0, record { own = g.own ∙ f.1.0; others = g.others; behind = g.behind; long = g.long });
        kept = tt;
        in_full = laws.in_full f.0;
        near = near_in_area index pool area parties after laws;
        within = within_each pool (entries_in area.id parties after) (shares_within pool ws (cents_in area.id parties after) laws);
      }

  pub refused_in_area : {T : Type 0} (f : SharingFault) (d : PoolFault) (column : List Cents) (given : List Claim) → d.0 ≡ f → Within pool (weights index area parties)
      → SharedAmong {T = T} shares pool claims given (Err f) → IsSharedIn {T = T} shares index pool area parties column column (Err d)
  refused_in_area f d column given whole within s =
      let ws : List ℕ = weights index area parties in
      let why : Refused pool ws f = rw (← weights_are index area parties claims are) s.outcome in
      let only = only_no_weight pool ws f within why in
      record { outcome = (whole ∙ only.0, only.1, only.2); kept = refl; in_full = tt; near = tt; within = tt }
