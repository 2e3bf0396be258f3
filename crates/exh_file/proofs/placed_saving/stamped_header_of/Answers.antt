use Rattle.std.proofs.Common.{sym, subst}
use Rattle.exh_placing.specs.StampedHeader.{IsStampedHeader}
use Rattle.exh_file.specs.declared.placing.Stamps.{Stamps}
use Rattle.exh_file.specs.Opened.{in_file}
use Rattle.exh_file.specs.Placing.{stamped_header}
use Rattle.exh_file.proofs.Legal.{is_header}
use Rattle.exh_file.proofs.PlacedLegal.{is_stamped}
use Rattle.exh_file.proofs.placed_saving.stamped_header_of.Goals as goal

pub returns-clause-header : goal.returns-clause-header
returns-clause-header g c = λ i. record {
  settings = c.args.settings;
  page_counts = (c.header_of-plain.ensures.header i).page_counts;
  stamp = c.word_of-stamp.ensures.same i;
  before = c.word_of-before.ensures.same i;
}

pub returns-clause-valid : goal.returns-clause-valid
returns-clause-valid g c =
    let opened = in_file c.args.settings c.args.wards.now in
    let stamps : Stamps = record { own = c.word_of-stamp.result; before = c.word_of-before.result } in
    let header = is_header opened c.requires c.header_of-plain.ensures.sound c.fitting_tables_begin_wards.ensures c.pages_are_few.ensures c.legal_tables_have_room.ensures in
    let is : IsStampedHeader (stamped_header opened stamps) = is_stamped opened stamps header c.word_of-stamp.ensures.word c.word_of-before.ensures.word in
    subst IsStampedHeader (λ i. record {
      settings = c.args.settings;
      page_counts = (sym c.header_of-plain.ensures.header i).page_counts;
      stamp = c.word_of-stamp.result;
      before = c.word_of-before.result;
    }) is
