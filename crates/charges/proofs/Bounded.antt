-- No cents of a column are larger than those of its parties. Assumes nothing.
use Rattle.std.proofs.Common.{◌≡◌, ◌≤◌, ◌-◌, ℕ, List, [], ◌∷◌, length, map, drop, replicate, ℤ, unsigned_abs, get_or, arith}
use Rattle.std.specs.List.{All, zip}
use Rattle.std.proofs.lemmas.List.Elements.{All-nil, All-cons, All-head, All-tail, All-append, All-map, All-replicate, All-same}
use Rattle.rows.specs.declared.figures.Cents.{Cents}
use Rattle.rows.specs.declared.party.Party.{Party}
use Rattle.records.specs.Ranges.{most_parties}
use Rattle.charges.specs.Amounts.{no_cents, rest, column}

module _ (m : ℕ) where
  abbrev Small : Cents → Type 0
  Small c = unsigned_abs c.0 ≤ m

  pub column_bounded : (amount : Party → ℤ) (parties : List Party) → ((p : Party) → unsigned_abs (amount p) ≤ m) → All Small (column amount parties)
  column_bounded amount parties each =
      All-append Small (map (λ p. record { 0 = amount p }) parties) (rest parties)
      (All-map Small (λ p. record { 0 = amount p }) parties (λ i d h. each (get_or parties i d)))
      (All-replicate Small (most_parties - length parties) no_cents (omega arith))

  -- where those of the parties are small, and behind them stands nothing
  pub shared_bounded : (parties : List Party) (column : List Cents) (n : ℕ) → All (λ e. Small e.1) (zip parties column) → drop (length parties) column ≡ replicate n no_cents → All Small column
  shared_bounded [] column n each behind = All-same Small column (replicate n no_cents) behind (All-replicate Small n no_cents (omega arith))
  shared_bounded (p ∷ ps) [] n each behind = All-nil Small
  shared_bounded (p ∷ ps) (c ∷ cs) n each behind =
      let P : Party × Cents → Type 0 = λ e. Small e.1 in
      All-cons Small c cs (All-head P (p, c) (zip ps cs) each) (shared_bounded ps cs n (All-tail P (p, c) (zip ps cs) each) behind)
