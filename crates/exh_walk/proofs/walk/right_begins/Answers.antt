use Rattle.std.proofs.Common.{◌≡◌, ◌++◌, ◌<◌, ℕ, Bool, true, false, List, [], ◌∷◌, length, refl, subst, arith}
use Rattle.std.specs.Prelude.{◌↔◌, nat_lt, IsTrue}
use Rattle.std.specs.Bool.{Decides}
use Rattle.std.proofs.lemmas.Bool.Decides.{nat_tests, same_from_decides}
use Rattle.exh_prefix.specs.Bits.{word_bits}
use Rattle.exh_prefix.specs.Prefix.{Begins, begins}
use Rattle.exh_prefix.specs.PrefixLemmas.{is_front-true, IsFront-from_test}
use Rattle.exh_prefix.specs.declared.prefix.TheConstants.{LIMIT}
use Rattle.exh_walk.specs.CallerWalk.{right_begins}
use Rattle.exh_walk.proofs.walk.right_begins.Goals as goal

tested : (prefix : List Bool) (pseudokey : ℕ) → Decides (begins prefix pseudokey) (Begins prefix pseudokey)
tested prefix pseudokey = (IsFront-from_test prefix (word_bits pseudokey), is_front-true prefix (word_bits pseudokey))

of_child : (prefix child : List Bool) (pseudokey : ℕ) (answer : Bool) → length prefix < LIMIT → child ≡ prefix ++ true ∷ [] → IsTrue answer ↔ Begins child pseudokey → answer ≡ right_begins prefix pseudokey
of_child prefix child pseudokey answer short child_is decides =
    let has : nat_lt (length prefix) LIMIT ≡ true = grind (arith, nat_tests) in
    let same : answer ≡ begins (prefix ++ true ∷ []) pseudokey =
    same_from_decides answer (begins (prefix ++ true ∷ []) pseudokey) (subst (λ own. Decides answer (Begins own pseudokey)) child_is (decides.0, decides.1)) (tested (prefix ++ true ∷ []) pseudokey) in
    rw has same

of_none : (prefix : List Bool) (pseudokey : ℕ) → (length prefix < LIMIT → ⊥) → false ≡ right_begins prefix pseudokey
of_none prefix pseudokey long =
    let has_none : nat_lt (length prefix) LIMIT ≡ false = grind (arith, nat_tests) in
    rw has_none refl

pub returns-in-Some : goal.returns-in-Some
returns-in-Some c = of_child c.args.prefix c.in-Some.child c.args.pseudokey c.begins.result c.in-Some.ensures.0 c.in-Some.ensures.1 c.begins.ensures

pub returns-in-None : goal.returns-in-None
returns-in-None c = of_none c.args.prefix c.args.pseudokey c.in-None.ensures
