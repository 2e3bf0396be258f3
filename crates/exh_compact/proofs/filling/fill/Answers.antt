use Rattle.std.proofs.Common.{◌≡◌, ℕ, List, [], ◌∷◌, ◌++◌, sym, ap, ◌∙◌, subst, append_assoc, rules}
use Rattle.exhash.specs.Pairs.{AreOnce}
use Rattle.exh_compact.proofs.FillLemmas.{once_before}
use Rattle.exh_compact.proofs.FileLemmas.{IsFilling, filling_begun, filling_full, filling_new}
use Rattle.exh_compact.proofs.filling.fill.Goals as goal

next_all : (seen left : List (List ℕ × List ℕ)) (item : List ℕ × List ℕ) {all rest : List (List ℕ × List ℕ)} → all ≡ seen ++ rest → rest ≡ item ∷ left → all ≡ (seen ++ item ∷ []) ++ left
next_all seen left item was steps = was ∙ ap (λ rest. seen ++ rest) steps ∙ sym (append_assoc seen (item ∷ []) left)

pub puts-init : goal.puts-init
puts-init g c = record {
  all = search rules;
  filling = subst (λ (full : List (List ℕ)). IsFilling c.args.settings.now c.args.wards.now.items full []) (sym c.new-full.ensures.items)
      (filling_begun c.args.settings.now c.args.wards.now.items c.requires.wards c.requires.none c.requires.needed);
}

pub puts-preserved-in-Continue-branch-3 : goal.puts-preserved-in-Continue-branch-3
puts-preserved-in-Continue-branch-3 g c =
    let was = c.puts.invariant in
    let seen = c.puts.yielded in
    let pair : List ℕ × List ℕ = (c.in-Some.key, c.in-Some.value) in
    let once : AreOnce (seen ++ pair ∷ c.next.new.self) = subst AreOnce (was.all ∙ ap (λ (rest : List (List ℕ × List ℕ)). seen ++ rest) c.in-Some.ensures.steps) c.requires.once in
    let made = filling_full c.args.settings.now c.puts.wards.items c.put_in.new.wards.items c.puts.full.items seen pair c.in_ok-put_in.field-0 was.filling (once_before seen c.next.new.self pair once)
    c.in_ok-put_in.ensures.one c.in_ok-put_in.ensures.wards c.in-Full.is in
    record {
      all = next_all seen c.next.new.self pair was.all c.in-Some.ensures.steps;
      filling = subst (λ (full : List (List ℕ)). IsFilling c.args.settings.now c.put_in.new.wards.items full (seen ++ pair ∷ [])) (sym c.in_ok-push_key-in-Full.ensures) made;
    }

pub puts-preserved : goal.puts-preserved
puts-preserved g c =
    let was = c.puts.invariant in
    let seen = c.puts.yielded in
    let pair : List ℕ × List ℕ = (c.in-Some.key, c.in-Some.value) in
    let once : AreOnce (seen ++ pair ∷ c.next.new.self) = subst AreOnce (was.all ∙ ap (λ (rest : List (List ℕ × List ℕ)). seen ++ rest) c.in-Some.ensures.steps) c.requires.once in
    record {
      all = next_all seen c.next.new.self pair was.all c.in-Some.ensures.steps;
      filling = filling_new c.args.settings.now c.puts.wards.items c.put_in.new.wards.items c.puts.full.items seen pair c.in_ok-put_in.field-0 was.filling (once_before seen c.next.new.self pair once)
          c.in_ok-put_in.ensures.one c.in_ok-put_in.ensures.wards c.in_default.not-Full c.in_ok-put_in.ensures.needed;
    }
