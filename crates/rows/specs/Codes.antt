-- The numbers of the codes under which money is given. Assumes nothing.
use Rattle.std.specs.Prelude.{ℕ, [], ◌∷◌, Option, ℤ, pos, find}
use Rattle.std.specs.Ordering.{int_eq}
use Rattle.rows.specs.declared.given.GivenCode.{GivenCode}
use Rattle.rows.specs.declared.given.GivenCode.TheVariants.{PassThrough, Cc6474, Cc6475}

abbrev pub code_number : GivenCode → ℕ
code_number PassThrough = 6470
code_number Cc6474 = 6474
code_number Cc6475 = 6475

-- the code with a number
unfoldable pub given_code : ℤ → Option GivenCode
given_code number = find (λ c. int_eq (pos (code_number c)) number) (PassThrough ∷ Cc6474 ∷ Cc6475 ∷ [])
