use Rattle.std.proofs.Common.{◌+◌, take, drop, sym, ap, ◌∙◌}
use Rattle.std.specs.Option.{option_map}
use Rattle.std.proofs.lemmas.List.{take_rest}
use Rattle.exh_pair_text.specs.Reads.{cut_lists}
use Rattle.exh_pair_text.proofs.Cuts.{cut_by_search}
use Rattle.exh_pair_text.proofs.reading.cut_at.Goals as goal

pub returns-in_err-end-clause-parts : goal.returns-in_err-end-clause-parts
returns-in_err-end-clause-parts c =
    let line = c.args.line.now in
    ap cut_lists c.from_residual.ensures ∙ sym (cut_by_search c.args.mark line c.memchr.result c.memchr.ensures ∙ ap (option_map (λ end. (take end line, drop (end + 1) line))) c.in_err-end.was)

pub returns-clause-parts : goal.returns-clause-parts
returns-clause-parts c =
    let line = c.args.line.now in
    rw take_rest (sym (cut_by_search c.args.mark line c.memchr.result c.memchr.ensures ∙ ap (option_map (λ end. (take end line, drop (end + 1) line))) c.in_ok-end.was))
