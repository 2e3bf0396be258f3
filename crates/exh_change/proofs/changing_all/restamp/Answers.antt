use Rattle.std.proofs.Common.{rules, ◌≡◌, ◌∙◌, sym, ap, refl, length}
use Rattle.exh_cells.specs.declared.stamped_header.StampedHeader.{StampedHeader}
use Rattle.exh_change.specs.Overlay.{shown}
use Rattle.exh_change.proofs.Steps.{same_last, stamped_last}
use Rattle.exh_change.proofs.changing_all.restamp.Goals as goal

pub put_header-requires : goal.put_header-requires
put_header-requires g c =
    let valid = c.in_ok-header.ensures.valid in
    record { plain = valid.plain; stamp = c.ranges.stamp.fits; before = c.ranges.own.fits }

pub returns : goal.returns
returns g c = record {
  legal = λ file tables bytes knows legal.
      let header = c.in_ok-header.header in
      let is = c.in_ok-header.ensures.legal file bytes knows legal.is in
      let valid = c.in_ok-header.ensures.valid in
      let put : StampedHeader = record { settings = header.settings; page_counts = header.page_counts; stamp = c.args.stamp; before = c.args.own } in
      stamped_last c.headers_change.ensures c.stamps_keep_legal.ensures file tables bytes legal c.args.own c.args.stamp put (record { plain = valid.plain; stamp = c.ranges.stamp.fits; before = c.ranges.own.fits })
      (ap (λ (header : StampedHeader). header.settings) is) (ap (λ (header : StampedHeader). header.page_counts) is) refl refl
      (shown g.K.Under.known c.header.new.self.edits.items.items) (shown g.K.Under.known c.put_header.new.self.edits.items.items) c.put_header.new.self.edits.items.items
      (c.in_ok-header.ensures.same_bytes ∙ knows) c.in_ok-put_header.ensures.made;
}

pub returns-then-len-eq0 : goal.returns-then-len-eq0
returns-then-len-eq0 g c = record {
  legal = λ file tables bytes knows legal.
      let edits = c.header.new.self.edits.items.items in
      let none : length edits ≡ 0 = search rules in
      same_last file tables bytes legal c.args.own c.args.stamp c.in_ok-header.header.stamp (shown g.K.Under.known edits) edits (c.in_ok-header.ensures.same_bytes ∙ knows)
      (sym (ap (λ (header : StampedHeader). header.stamp) (c.in_ok-header.ensures.legal file bytes knows legal.is))) none;
}
