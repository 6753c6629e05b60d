-- A list that is filled index by index. Assumes nothing.
use Rattle.std.proofs.Common.{◌≡◌, ◌+◌, ◌-◌, ◌<◌, ℕ, List, [], ◌∷◌, ◌++◌, map, length, take, drop, get_or, set, replicate, ℤ, sym, ap, ◌∙◌, append_assoc, arith}
use Rattle.std.proofs.lemmas.List.{length-map, length-take-le, map_more, drop_more, set_at, take_all, drop-replicate}
use Rattle.rows.specs.declared.figures.Cents.{Cents}
use Rattle.rows.specs.declared.party.Party.{Party}
use Rattle.records.specs.Ranges.{most_parties}
use Rattle.charges.specs.Amounts.{column, no_cents, no_column}

-- what f makes of the first so many, and what was there before behind it
abbrev pub filled : {X Y : Type 0} → (X → Y) → List Y → List X → ℕ → List Y
filled f before xs i = map f (take i xs) ++ drop i before

-- f of one item more of xs
pub filled_more : {X Y : Type 0} (f : X → Y) (xs : List X) (before now : List Y) (i : ℕ) (d : X) (y : Y) → i < length xs → i < length before
    → now ≡ map f (take i xs) ++ drop i before → y ≡ f (get_or xs i d) → set now i y ≡ map f (take (i + 1) xs) ++ drop (i + 1) before
filled_more f xs before now i d y in' room is new =
    let made = map f (take i xs) in
    let long : length made ≡ i = length-map (take i xs) f ∙ length-take-le i xs (omega arith) in
    let at : now ≡ made ++ get_or before i y ∷ drop (i + 1) before = is ∙ ap (λ l. made ++ l) (drop_more before i y room) in
    let more : map f (take (i + 1) xs) ≡ made ++ y ∷ [] = map_more f xs i d in' ∙ ap (λ z. made ++ z ∷ []) (sym new) in
    rw (at, set_at made (get_or before i y) (drop (i + 1) before) y i long, more, append_assoc)

-- a column with the amounts of all parties
pub filled_all : (amount : Party → ℤ) (parties : List Party) (i : ℕ) → i ≡ length parties → filled (λ p. record { 0 = amount p }) no_column parties i ≡ column amount parties
filled_all amount parties i all =
    let f : Party → Cents = λ p. record { 0 = amount p } in
    ap (λ l. map f l ++ drop i no_column) (take_all i parties (omega arith)) ∙ ap (λ l. map f parties ++ l) (drop-replicate i most_parties no_cents ∙ ap (λ n. replicate (most_parties - n) no_cents) all)
