-- What a contract sees of a table. Assumes nothing.
use Rattle.std.specs.Prelude.{ℕ, List, refl}
use Rattle.std.specs.Coded.{Coded, code_by, coded×, coded_ℕ, coded_list}

-- the rows, in the order entered, and how many there may be
pub record Table (T : Type 0) : Type 0 where
  pub rows : List T
  pub most : ℕ

-- a table is stored as the pair of its fields
abbrev pub table_code : {T : Type 0} → Coded T → Coded (Table T)
table_code {T} code =
    code_by (List T × ℕ) (coded× (coded_list code) coded_ℕ) (λ t. (t.rows, t.most))
    (λ p. record { rows = p.0; most = p.1 }) (λ _. refl)
