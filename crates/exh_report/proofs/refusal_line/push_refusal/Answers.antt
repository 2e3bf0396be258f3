use Rattle.std.proofs.Common.{◌≡◌, ℕ, List, [], ◌∷◌, ◌++◌, Option, ap, ◌∙◌, rules}
use Rattle.exh_format.specs.LegalFileFault.{fault_place, fault_reason, legal_file_fault_number}
use Rattle.exh_text.specs.Printing.{refused_text}
use Rattle.exh_text.specs.TextLemmas.{keeps_more}
use Rattle.exh_report.specs.Finding.{place_words, reason_words}
use Rattle.exh_report.proofs.Behind.{short_line}
use Rattle.exh_report.proofs.refusal_line.push_refusal.Goals as goal

placed_as : (old : List ℕ) {new : List ℕ} (known place : Option ℕ) → new ≡ old ++ place_words place → place ≡ known → new ≡ old ++ place_words known
placed_as old known place pushed is = pushed ∙ ap (λ place. old ++ place_words place) is

pub returns-in_err-push_block-clause-kept : goal.returns-in_err-push_block-clause-kept
returns-in_err-push_block-clause-kept c = keeps_more c.args.out.now.items c.push_refused.new.out.items c.push_block.new.out.items c.push_refused.ensures.kept c.push_block.ensures.kept

pub returns-in_err-push_reason-clause-kept : goal.returns-in_err-push_reason-clause-kept
returns-in_err-push_reason-clause-kept c =
    let before = keeps_more c.args.out.now.items c.push_refused.new.out.items c.push_block.new.out.items c.push_refused.ensures.kept c.push_block.ensures.kept in
    keeps_more c.args.out.now.items c.push_block.new.out.items c.push_reason.new.out.items before c.push_reason.ensures.kept

pub returns-clause-kept : goal.returns-clause-kept
returns-clause-kept c =
    let before = keeps_more c.args.out.now.items c.push_refused.new.out.items c.push_block.new.out.items c.push_refused.ensures.kept c.push_block.ensures.kept in
    keeps_more c.args.out.now.items c.push_reason.new.out.items c.push_text.new.out.items
    (keeps_more c.args.out.now.items c.push_block.new.out.items c.push_reason.new.out.items before c.push_reason.ensures.kept) c.push_text.ensures.kept

pub returns-clause-ok : goal.returns-clause-ok
returns-clause-ok c =
    let fault = c.args.fault in
    let refused = c.in_ok-push_refused.ensures.ok ∙ ap (λ number. c.args.out.now.items ++ refused_text number) (c.from.ensures ∙ c.number.ensures) in
    let placed : c.push_block.new.out.items ≡ c.push_refused.new.out.items ++ place_words (fault_place fault) = placed_as c.push_refused.new.out.items (fault_place fault) _ c.in_ok-push_block.ensures.ok (search rules) in
    let reasoned = c.in_ok-push_reason.ensures.ok ∙ ap (λ reason. c.push_block.new.out.items ++ reason_words reason) c.reason.ensures in
    short_line c.push_text.result c.args.out.now.items c.push_refused.new.out.items c.push_block.new.out.items c.push_reason.new.out.items c.push_text.new.out.items
    (refused_text (legal_file_fault_number fault)) (place_words (fault_place fault)) (reason_words (fault_reason fault)) (10 ∷ []) refused placed reasoned c.push_text.ensures.ok
