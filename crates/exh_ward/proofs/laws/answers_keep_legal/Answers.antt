use Rattle.std.proofs.Common.{◌≡◌, ℕ, Bool, leb, List, length, Option, Some, refl, sym, ap, ◌∙◌, subst}
use Rattle.std.specs.Prelude.{slice_set}
use Rattle.exh_page.specs.declared.page.Page.{Page}
use Rattle.exh_page.specs.declared.page.Page.TheVariants.{Live}
use Rattle.exh_page.specs.declared.record.Record.{Record}
use Rattle.exh_legal.specs.Pages.{map_of, IsAt, IsHome, IsLegal}
use Rattle.exh_calls.specs.Call.{key_of}
use Rattle.exh_ward.specs.HopTable.{Overflows, HopOf, pages_after}
use Rattle.exh_ward.specs.WardLaws.{IsLegalAnswer}
use Rattle.exh_ward.specs.PageAnswer.{records_after}
use Rattle.exh_calls.specs.declared.call.Call.{Call}
use Rattle.exh_ward.specs.declared.hop.Hop.TheVariants.{Done}
use Rattle.exh_calls.specs.declared.reply.Reply.{Reply}
use Rattle.exh_ward.proofs.HomeReplies.{AtHome, Fit}
use Rattle.exh_ward.proofs.AnswersKeepLegal.{new_legal, new_map}
use Rattle.exh_ward.proofs.SightsAreHops.{home_live, over_by_map}
use Rattle.exh_ward.proofs.laws.answers_keep_legal.Goals as goal

module _ (cap : ℕ) (pseudo : List ℕ → ℕ) (ward : List Bool) (pages : List Page) (at : ℕ) (call : Call) (reply : Reply) (fit : Fit pseudo) (legal : IsLegal cap pseudo ward pages) where
  -- the answering page written out
  module _ (prefix : List Bool) (link : Option ℕ) (records : List Record) (home : AtHome cap pseudo ward pages at prefix link records call) where
    after_is : pages_after cap pseudo pages at call ≡ slice_set pages at (Live prefix link (records_after (leb cap (length records)) (pseudo (key_of call)) call records))
    unfolding pages_after
    after_is = rw home.there refl

    kept : IsLegalAnswer cap pseudo ward pages call (pages_after cap pseudo pages at call)
    kept = subst (IsLegalAnswer cap pseudo ward pages call) (sym after_is) (record { legal = new_legal fit home; map = new_map fit home })

  answered : HopOf cap pseudo pages at call (Done reply) → IsLegalAnswer cap pseudo ward pages call (pages_after cap pseudo pages at call)
  answered hop =
      let live = home_live hop.0 (pseudo (key_of call)) hop.2 in
      let there : IsAt pages at (Live live.0 live.1 live.2) = hop.1.there ∙ ap Some live.3 in
      let home = subst (λ page. IsHome page (pseudo (key_of call))) live.3 hop.2 in
      let none : Overflows cap (map_of pages) (Live live.0 live.1 live.2) call → ⊥ = λ over. hop.3 (subst (λ page. Overflows cap (map_of pages) page call) (sym live.3) over) in
      kept live.0 live.1 live.2 (record { legal = legal; there = there; home = home; none = λ over. none (over_by_map legal at call call live.0 live.1 live.2 there home over) })

pub returns : goal.returns
returns c cap pseudo ward pages at call reply fit legal hop = answered cap pseudo ward pages at call reply fit legal hop
