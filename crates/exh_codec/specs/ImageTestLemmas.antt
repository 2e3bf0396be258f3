-- Where all tests are passed, none is the first that fails.
use Rattle.std.proofs.Common.{List, ◌∷◌, subst}
use Rattle.std.specs.List.{AllByRecursion}
use Rattle.exh_page.specs.PrefixListLemmas.{AllByRecursion-append_right}
use Rattle.exh_codec.specs.declared.image_fault.ImageFault.{ImageFault}
use Rattle.exh_codec.specs.ImageTests.{IsFirst}

pub none_first : (Pass : ImageFault → Type 0) (tests : List ImageFault) (fault : ImageFault) → IsFirst Pass tests fault → AllByRecursion Pass tests → ⊥
none_first Pass tests fault first all = first.fails (AllByRecursion-append_right Pass first.before (fault ∷ first.after) (subst (AllByRecursion Pass) first.stands all)).0
