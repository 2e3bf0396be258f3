use Rattle.std.proofs.Common.{◌≡◌, ℕ, List, [], ◌∷◌, ◌++◌, map, sym, ap, ◌∙◌, append_assoc}
use Rattle.std.proofs.lemmas.List.{map_push}
use Rattle.exh_page.specs.KeyMap.{pair_of}
use Rattle.exh_page.specs.declared.record.Record.{Record}
use Rattle.exh_map.proofs.ward_pairs.push_records.Goals as goal

next_pair : (old : List (List ℕ × List ℕ)) (seen : List Record) (item : Record) {so_far next : List (List ℕ × List ℕ)} → so_far ≡ old ++ map pair_of seen → next ≡ so_far ++ pair_of item ∷ []
    → next ≡ old ++ map pair_of (seen ++ item ∷ [])
next_pair old seen item was pushed =
    pushed ∙ ap (λ pairs. pairs ++ pair_of item ∷ []) was ∙ append_assoc old (map pair_of seen) (pair_of item ∷ []) ∙ ap (λ more. old ++ more) (sym (map_push pair_of seen item))

next_all : (seen left : List Record) (item : Record) {all rest : List Record} → all ≡ seen ++ rest → rest ≡ item ∷ left → all ≡ (seen ++ item ∷ []) ++ left
next_all seen left item was steps = was ∙ ap (λ rest. seen ++ rest) steps ∙ sym (append_assoc seen (item ∷ []) left)

pub loop-item-preserved : goal.loop-item-preserved
loop-item-preserved c =
    let was = c.loop-item.invariant in
    let item = c.in-Some.item in
    record {
      all = next_all c.loop-item.yielded c.next.new.self item was.all c.in-Some.ensures.steps;
      pairs = next_pair c.args.pairs.now c.loop-item.yielded item was.pairs c.in_ok-push.ensures.ok;
    }
