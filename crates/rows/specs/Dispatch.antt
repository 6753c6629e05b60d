-- The words of the types of exceptional dispatch. Assumes nothing.
use Rattle.std.specs.Prelude.{ℕ, Bool, true, false, List, [], ◌∷◌, Option, Some, None, codes}
use Rattle.std.specs.Option.{option_map_or}
use Rattle.rows.specs.declared.dispatch.DispatchType.{DispatchType}
use Rattle.rows.specs.declared.dispatch.DispatchType.TheVariants.{SysEmr, SysEmr1, Temr}
use Rattle.rows.specs.declared.dispatch.DispatchType.TheVariants.{TModel, TModel1, TModel2, TModel3, TModel4}
use Rattle.rows.specs.declared.dispatch.DispatchType.TheVariants.{TModel5, TModel6, TModel7, TModel8, TModel9}
use Rattle.rows.specs.declared.dispatch.DispatchType.TheVariants.{TorEtc, TorEtc1, RmrR, RmrS, RmrT, Slic, Other}
use Rattle.rows.specs.declared.dispatch.DispatchType.TheVariants.{NonTMod, AsTest, Test}
use Rattle.rows.specs.declared.dispatch.DispatchClass.{DispatchClass}
use Rattle.rows.specs.declared.dispatch.DispatchClass.TheVariants.{First, Second}
use Rattle.rows.specs.declared.dispatch.DispatchWord.{DispatchWord}
use Rattle.rows.specs.declared.dispatch.DispatchWord.TheVariants.{Absent, Named, Unknown}
use Rattle.rows.specs.Named.{kind_by_word}

abbrev pub type_word : DispatchType → List ℕ
type_word SysEmr = codes "SYSEMR"
type_word SysEmr1 = codes "SYSEMR1"
type_word Temr = codes "TEMR"
type_word TModel = codes "TMODEL"
type_word TModel1 = codes "TMODEL1"
type_word TModel2 = codes "TMODEL2"
type_word TModel3 = codes "TMODEL3"
type_word TModel4 = codes "TMODEL4"
type_word TModel5 = codes "TMODEL5"
type_word TModel6 = codes "TMODEL6"
type_word TModel7 = codes "TMODEL7"
type_word TModel8 = codes "TMODEL8"
type_word TModel9 = codes "TMODEL9"
type_word TorEtc = codes "TORETC"
type_word TorEtc1 = codes "TORETC1"
type_word RmrR = codes "RMRR"
type_word RmrS = codes "RMRS"
type_word RmrT = codes "RMRT"
type_word Slic = codes "SLIC"
type_word Other = codes "OTHER"
type_word NonTMod = codes "NONTMOD"
type_word AsTest = codes "ASTEST"
type_word Test = codes "TEST"

abbrev pub dispatch_types : List DispatchType
dispatch_types =
    SysEmr ∷ SysEmr1 ∷ Temr
    ∷ TModel ∷ TModel1 ∷ TModel2 ∷ TModel3 ∷ TModel4 ∷ TModel5 ∷ TModel6 ∷ TModel7 ∷ TModel8 ∷ TModel9
    ∷ TorEtc ∷ TorEtc1 ∷ RmrR ∷ RmrS ∷ RmrT ∷ Slic ∷ Other
    ∷ NonTMod ∷ AsTest ∷ Test
    ∷ []

-- the class of a type
abbrev pub dispatch_class : DispatchType → DispatchClass
dispatch_class NonTMod = Second
dispatch_class AsTest = Second
dispatch_class Test = Second
dispatch_class _ = First

abbrev pub dispatch_type : List ℕ → Option DispatchType
dispatch_type word = kind_by_word type_word dispatch_types word

-- what a word says of the dispatch type, where there is one
abbrev pub dispatch_word : Option (List ℕ) → DispatchWord
dispatch_word None = Absent
dispatch_word (Some word) = option_map_or Named (dispatch_type word) Unknown

-- whether it is absent, or names a type
abbrev pub is_known_type : DispatchWord → Bool
is_known_type Absent = true
is_known_type (Named kind) = true
is_known_type Unknown = false

-- the type that it names
abbrev pub as_dispatch : DispatchWord → Option DispatchType
as_dispatch Absent = None
as_dispatch (Named kind) = Some kind
as_dispatch Unknown = None
