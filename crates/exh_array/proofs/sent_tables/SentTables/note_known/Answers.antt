use Rattle.std.proofs.Common.{◌≡◌, List, ℕ, ap, ◌∙◌, sym, subst}
use Rattle.std.specs.BTreeSet.{BTreeSet}
use Rattle.exh_array.specs.Sent.{unpacked}
use Rattle.exh_array.specs.KnownCopy.{AreKnown, forgotten}
use Rattle.exh_array.proofs.sent_tables.SentTables.note_known.Goals as goal

-- nothing is noted
undone : (c : goal.After-forget) → c.forget.new.known ≡ c.args.known.now
undone c = c.forget.ensures ∙ c.note_back.ensures.back ∙ ap (λ (noted : List ℕ). forgotten noted c.args.known.now) c.new-noted.ensures.items

pub returns-in-Err-clause-known : goal.returns-in-Err-clause-known
returns-in-Err-clause-known c start own known up = subst (λ (places : BTreeSet ℕ). AreKnown (unpacked start c.args.self.now) places own) (sym (undone c)) known

pub returns-clause-known : goal.returns-clause-known
returns-clause-known c start own known up = c.note_back.ensures.known start own known up
