use Rattle.std.proofs.Common.{◌≡◌, ◌⊎◌, List, [], refl, map, length, ap, ◌∙◌, subst}
use Rattle.std.specs.Prelude.{Contains, EachIndex, slice_index, ◌≤◌}
use Rattle.std.specs.List.{All}
use Rattle.exh_compact.specs.Stats.{block_bytes, byte_sum, forward_count, full_limit_count, limit_count, live_count, record_sum, shapes_in, with_bits_count, with_records_count}
use Rattle.exh_compact.specs.declared.page_shape.PageShape.{PageShape}
use Rattle.exh_compact.proofs.stats.stats_of.Goals as goal

pub returns-clause-stats : goal.returns-clause-stats
returns-clause-stats g c =
    let shapes = c.as_slice-shapes.result.now in
    let all = shapes_in c.args.wards.now.items in
    let same : shapes ≡ all = c.as_slice-shapes.ensures.value ∙ c.in_ok-gathered.ensures.shapes in
    record {
      version_is = refl;
      settings = refl;
      records = c.record_count.ensures ∙ ap record_sum same;
      live = c.live_count.ensures ∙ ap live_count same;
      forwarding = c.forward_count.ensures ∙ ap forward_count same;
      by_records = subst (λ (ss : List PageShape). EachIndex c.by_records.result (λ k. slice_index c.by_records.result k ≡ with_records_count k ss)) same c.by_records.ensures;
      by_bits = subst (λ (ss : List PageShape). EachIndex c.by_bits.result (λ k. slice_index c.by_bits.result k ≡ with_bits_count k ss)) same c.by_bits.ensures;
      longest = subst (λ (ss : List PageShape). All (λ (s : PageShape). length s.prefix ≤ length c.longest.result) ss) same c.longest.ensures.longest;
      there = subst (λ (ss : List PageShape). (c.longest.result ≡ []) ⊎ Contains (map (λ (s : PageShape). s.prefix) ss) c.longest.result) same c.longest.ensures.there;
      at_limit = c.limit_count.ensures ∙ ap limit_count same;
      full_at_limit = c.full_limit_count.ensures ∙ ap (full_limit_count c.args.settings.cap) same;
      record_bytes = c.byte_count.ensures ∙ ap byte_sum same;
      page_bytes = c.block_bytes.ensures ∙ ap block_bytes same;
      wards = c.in_ok-gathered.ensures.wards;
    }
