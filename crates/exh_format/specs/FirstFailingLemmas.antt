-- Where all tests are passed, none is the first that fails.
use Rattle.std.proofs.Common.{List, ◌∷◌, subst}
use Rattle.std.specs.List.{AllByRecursion}
use Rattle.exh_prefix.specs.PrefixListLemmas.{AllByRecursion-append_right}
use Rattle.exh_format.specs.FirstFailing.{IsFirstFailing}

pub none_first : {Test : Type 0} (Passes : Test → Type 0) (tests : List Test) (test : Test) → IsFirstFailing Passes tests test → AllByRecursion Passes tests → ⊥
none_first Passes tests test first all = first.fails (AllByRecursion-append_right Passes first.before (test ∷ first.after) (subst (AllByRecursion Passes) first.stands all)).0
