-- The codes under which a party is charged. Assumes nothing.
use Rattle.std.specs.Prelude.{ℕ, List, [], ◌∷◌}
use Rattle.rows.specs.declared.figures.Cents.{Cents}
use Rattle.charges.specs.declared.amounts.IntervalAmounts.{IntervalAmounts}
use Rattle.charges.specs.declared.code.ChargeCode.{ChargeCode}
use Rattle.charges.specs.declared.code.ChargeCode.TheVariants.{Cc6470, Cc6474, Cc6475, Cc6476, Cc6477}

-- all of them, rising
abbrev pub all_codes : List ChargeCode
all_codes = Cc6470 ∷ Cc6474 ∷ Cc6475 ∷ Cc6476 ∷ Cc6477 ∷ []

abbrev pub charge_code_number : ChargeCode → ℕ
charge_code_number Cc6470 = 6470
charge_code_number Cc6474 = 6474
charge_code_number Cc6475 = 6475
charge_code_number Cc6476 = 6476
charge_code_number Cc6477 = 6477

-- the parties' amounts under a code
abbrev pub column_under : ChargeCode → IntervalAmounts → List Cents
column_under Cc6470 x = x.cc_6470
column_under Cc6474 x = x.cc_6474
column_under Cc6475 x = x.cc_6475
column_under Cc6476 x = x.cc_6476
column_under Cc6477 x = x.cc_6477
