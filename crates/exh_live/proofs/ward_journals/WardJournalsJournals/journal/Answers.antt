use borrow.Author.Rules.{scaled_Fits}
use Rattle.std.proofs.Common.{◌<◌, length, Some, sym, ap, ◌∙◌, subst}
use Rattle.std.specs.Option.{option_map}
use Rattle.std.proofs.lemmas.List.{length-map}
use Rattle.std.proofs.lemmas.Option.{slice_get-get_or, slice_get-map}
use Rattle.exh_ward.specs.WardState.{WardState}
use Rattle.exh_live.proofs.ward_journals.WardJournalsJournals.journal.Goals as goal

pub offset_bounds-self-number : goal.offset_bounds-self-number
offset_bounds-self-number g c =
    let within : c.args.number < length c.args.self.now.wards.now = subst (λ count. c.args.number < count) (length-map c.args.self.now.wards.now (λ (ward : WardState g.row.K.Denot). ward.journal)) c.requires in
    scaled_Fits c.args.number (length c.args.self.now.wards.now) _ within assumption

pub bounds-self-number : goal.bounds-self-number
bounds-self-number g c = subst (λ count. c.args.number < count) (length-map c.args.self.now.wards.now (λ (ward : WardState g.row.K.Denot). ward.journal)) c.requires

pub returns : goal.returns
returns g c =
    let wards = c.args.self.now.wards.now in
    let within : c.args.number < length wards = subst (λ count. c.args.number < count) (length-map wards (λ (ward : WardState g.row.K.Denot). ward.journal)) c.requires in
    slice_get-map (λ (ward : WardState g.row.K.Denot). ward.journal) wards c.args.number
    ∙ ap (option_map (λ (ward : WardState g.row.K.Denot). ward.journal)) (slice_get-get_or wards c.args.number c.index-self-number.result within)
    ∙ ap Some (sym c.journal.ensures.entries)
