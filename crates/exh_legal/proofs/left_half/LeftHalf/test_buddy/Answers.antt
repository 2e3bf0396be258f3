use Rattle.std.proofs.Common.{◌≡◌, ℕ, Bool, true, false, not, List, [], ◌∷◌, ◌++◌, Option, refl, ap, sym, ◌∙◌, arith}
use Rattle.exh_prefix.specs.PrefixLemmas.{prefix_eq-exact}
use Rattle.exh_page.specs.declared.page_head.PageHead.{PageHead}
use Rattle.exh_page.specs.declared.page_head.PageHead.TheVariants.{Live}
use Rattle.exh_legal.proofs.left_half.LeftHalf.test_buddy.Goals as goal

not_false : (b : Bool) → not b ≡ false → b ≡ true
not_false true is = refl
not_false false is = sym is

buddy_is : {buddy : PageHead} {prefix child : List Bool} {link : Option ℕ} {count : ℕ} → buddy ≡ Live prefix link count → prefix ≡ child → buddy ≡ Live child link count
buddy_is {link = link} {count = count} is same = is ∙ ap (λ p. Live p link count) same

pub returns-then-sum-cap-clause-err : goal.returns-then-sum-cap-clause-err
returns-then-sum-cap-clause-err c =
    let child : c.unwrap.result ≡ c.args.self.now.parent ++ true ∷ [] = (rw c.unwrap.ensures at c.child.ensures).1 in
    let same = (prefix_eq-exact c.in-Live.prefix c.unwrap.result).0 (not_false _ (sym c.ne.ensures ∙ c.if-ne.false)) ∙ child in
    (c.in-Live.right, c.in-Live.count, buddy_is c.in-Live.is same, refl, c.if-sum-cap.true)

pub returns-else-sum-cap-clause-ok : goal.returns-else-sum-cap-clause-ok
returns-else-sum-cap-clause-ok c =
    let child : c.unwrap.result ≡ c.args.self.now.parent ++ true ∷ [] = (rw c.unwrap.ensures at c.child.ensures).1 in
    let same = (prefix_eq-exact c.in-Live.prefix c.unwrap.result).0 (not_false _ (sym c.ne.ensures ∙ c.if-ne.false)) ∙ child in
    record { link = c.in-Live.right; count = c.in-Live.count; live = buddy_is c.in-Live.is same; few = omega (arith, c.if-sum-cap.false) }
