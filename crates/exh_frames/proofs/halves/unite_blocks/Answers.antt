use Rattle.std.proofs.Common.{◌≡◌, ℕ, ◌+◌, ◌-◌, ◌≤◌, List, ◌++◌, length, take, drop, slice_index, Option, sym, ap, ◌∙◌, subst, arith}
use borrow.Rule.Slice.PartMut.{put_mid}
use Rattle.std.proofs.lemmas.List.{take_at, length-append}
use Rattle.exh_page.specs.declared.page.Page.{Page}
use Rattle.exh_page.specs.declared.page.Page.TheVariants.{Live}
use Rattle.exh_page.specs.declared.page_head.PageHead.{PageHead}
use Rattle.exh_page.specs.declared.page_head.PageHead.TheVariants.{Live as LiveHead}
use Rattle.exh_page.specs.Page.{records_of}
use Rattle.exh_page.specs.PageHead.{count_in}
use Rattle.exh_codec.specs.Head.{head_bytes, head_with}
use Rattle.exh_frames.specs.InPlace.{AreStarts, AreUnited, HasContent, bytes_of}
use Rattle.exh_frames.proofs.Contents.{has_records, length-bytes, used_at}
use Rattle.exh_frames.proofs.Laid.{united_block}
use Rattle.exh_frames.proofs.halves.unite_blocks.Goals as goal

-- what the counts and the starts of two blocks say
record AreTold (block other : List ℕ) (page twin : Page) (start end count more : ℕ) : Type 0 where
  count_is : count ≡ length (records_of page)
  more_is : more ≡ length (records_of twin)
  start_is : start ≡ 16 + length (bytes_of (records_of page))
  end_is : end ≡ 16 + length (bytes_of (records_of twin))
  run : take (end - 16) (drop 16 other) ≡ bytes_of (records_of twin)
  fits : start + length (bytes_of (records_of twin)) ≤ 3136
  few : count + more ≤ 16

told : (block other : List ℕ) (page twin : Page) (starts others : List ℕ) (count more : ℕ) → AreUnited block other page twin → AreStarts (records_of page) starts → AreStarts (records_of twin) others
    → count ≡ slice_index block 2 → more ≡ slice_index other 2 → AreTold block other page twin (slice_index starts count) (slice_index others more) count more
told block other page twin starts others count more united at other_at count_is more_is =
    let said = has_records block page united.content in
    let other_said = has_records other twin united.twin_content in
    let start = used_at (records_of page) starts count at (count_is ∙ said.1.count) in
    let end = used_at (records_of twin) others more other_at (more_is ∙ other_said.1.count) in
    let sum = length-append (records_of page) (records_of twin) in
    record {
      count_is = count_is ∙ said.1.count;
      more_is = more_is ∙ other_said.1.count;
      start_is = start;
      end_is = end;
      run = ap (λ (n : ℕ). take (n - 16) (drop 16 other)) end ∙ ap (take (16 + length (bytes_of (records_of twin)) - 16)) other_said.1.bytes
          ∙ take_at (bytes_of (records_of twin)) other_said.0 (16 + length (bytes_of (records_of twin)) - 16) (omega arith);
      fits = omega (arith, start, length-bytes (records_of page) united.content.sized, length-bytes (records_of twin) united.twin_content.sized, united.room, sum);
      few = omega (arith, count_is, said.1.count, more_is, other_said.1.count, united.room, sum);
    }

pub bounds-starts-count : goal.bounds-starts-count
bounds-starts-count c =
    let page = c.requires.0 in
    let twin = c.requires.1 in
    let united = c.requires.2 in
    let block = c.args.block.now in
    let other = c.args.other.now in
    let said =
    told block other page twin c.starts_of-starts.result c.starts_of-others.result c.from-count.result c.from-more.result united (c.starts_of-starts.ensures page united.content) (c.starts_of-others.ensures twin united.twin_content)
    c.from-count.ensures c.from-more.ensures in
    omega (arith, said.few)

pub bounds-others-more : goal.bounds-others-more
bounds-others-more c =
    let page = c.requires.0 in
    let twin = c.requires.1 in
    let united = c.requires.2 in
    let block = c.args.block.now in
    let other = c.args.other.now in
    let said =
    told block other page twin c.starts_of-starts.result c.starts_of-others.result c.from-count.result c.from-more.result united (c.starts_of-starts.ensures page united.content) (c.starts_of-others.ensures twin united.twin_content)
    c.from-count.ensures c.from-more.ensures in
    omega (arith, said.few)

pub slice_bounds-run-count : goal.slice_bounds-run-count
slice_bounds-run-count c =
    let page = c.requires.0 in
    let twin = c.requires.1 in
    let united = c.requires.2 in
    let block = c.args.block.now in
    let other = c.args.other.now in
    let said =
    told block other page twin c.starts_of-starts.result c.starts_of-others.result c.from-count.result c.from-more.result united (c.starts_of-starts.ensures page united.content) (c.starts_of-others.ensures twin united.twin_content)
    c.from-count.ensures c.from-more.ensures in
    omega (arith, said.end_is)

pub slice_bounds-run-start : goal.slice_bounds-run-start
slice_bounds-run-start c =
    let page = c.requires.0 in
    let twin = c.requires.1 in
    let united = c.requires.2 in
    let block = c.args.block.now in
    let other = c.args.other.now in
    let said =
    told block other page twin c.starts_of-starts.result c.starts_of-others.result c.from-count.result c.from-more.result united (c.starts_of-starts.ensures page united.content) (c.starts_of-others.ensures twin united.twin_content)
    c.from-count.ensures c.from-more.ensures in
    omega (arith, said.end_is, said.fits)

pub slice_bounds-run-end : goal.slice_bounds-run-end
slice_bounds-run-end c =
    let page = c.requires.0 in
    let twin = c.requires.1 in
    let united = c.requires.2 in
    let block = c.args.block.now in
    let other = c.args.other.now in
    let said =
    told block other page twin c.starts_of-starts.result c.starts_of-others.result c.from-count.result c.from-more.result united (c.starts_of-starts.ensures page united.content) (c.starts_of-others.ensures twin united.twin_content)
    c.from-count.ensures c.from-more.ensures in
    omega (arith, said.end_is, said.fits)

pub overflow_add-start : goal.overflow_add-start
overflow_add-start c =
    let page = c.requires.0 in
    let twin = c.requires.1 in
    let united = c.requires.2 in
    let block = c.args.block.now in
    let other = c.args.other.now in
    let said =
    told block other page twin c.starts_of-starts.result c.starts_of-others.result c.from-count.result c.from-more.result united (c.starts_of-starts.ensures page united.content) (c.starts_of-others.ensures twin united.twin_content)
    c.from-count.ensures c.from-more.ensures in
    omega (arith, said.end_is, said.fits, ap length said.run)

pub slice_bounds-copy_from_slice-end : goal.slice_bounds-copy_from_slice-end
slice_bounds-copy_from_slice-end c =
    let page = c.requires.0 in
    let twin = c.requires.1 in
    let united = c.requires.2 in
    let block = c.args.block.now in
    let other = c.args.other.now in
    let said =
    told block other page twin c.starts_of-starts.result c.starts_of-others.result c.from-count.result c.from-more.result united (c.starts_of-starts.ensures page united.content) (c.starts_of-others.ensures twin united.twin_content)
    c.from-count.ensures c.from-more.ensures in
    omega (arith, said.end_is, said.fits, ap length said.run)

pub put_head-requires : goal.put_head-requires
put_head-requires c =
    let page = c.requires.0 in
    let twin = c.requires.1 in
    let united = c.requires.2 in
    let block = c.args.block.now in
    let other = c.args.other.now in
    let said =
    told block other page twin c.starts_of-starts.result c.starts_of-others.result c.from-count.result c.from-more.result united (c.starts_of-starts.ensures page united.content) (c.starts_of-others.ensures twin united.twin_content)
    c.from-count.ensures c.from-more.ensures in
    subst (λ (h : PageHead). count_in h ≤ 16) (sym c.live_head.ensures) said.few

pub returns : goal.returns
returns c page twin united link_is =
    let block = c.args.block.now in
    let other = c.args.other.now in
    let said =
    told block other page twin c.starts_of-starts.result c.starts_of-others.result c.from-count.result c.from-more.result united (c.starts_of-starts.ensures page united.content) (c.starts_of-others.ensures twin united.twin_content)
    c.from-count.ensures c.from-more.ensures in
    let start = slice_index c.starts_of-starts.result c.from-count.result in
    let end = slice_index c.starts_of-others.result c.from-more.result in
    let k : ℕ = start + length (take (end - 16) (drop 16 other)) - start in
    let after : List ℕ = put_mid start k block c.copy_from_slice.new.self in
    let count : ℕ = c.from-count.result + c.from-more.result in
    let head : PageHead = LiveHead c.args.parent c.args.link count in
    let new : c.put_head.new.block ≡ head_bytes (head_with head) ++ drop 16 after = c.put_head.ensures ∙ ap (λ (h : PageHead). head_bytes (head_with h) ++ drop 16 after) c.live_head.ensures in
    let records = records_of page ++ records_of twin in
    let k_is : k ≡ length (bytes_of (records_of twin)) = omega (arith, ap length said.run) in
    subst (λ (l : Option ℕ). HasContent c.put_head.new.block (Live c.args.parent l records)) link_is
    (subst (λ (b : List ℕ). HasContent b (Live c.args.parent c.args.link records)) (sym new)
    (united_block page twin c.args.parent c.args.link block other c.copy_from_slice.new.self start k count united.content united.twin_content united.room said.start_is (c.copy_from_slice.ensures.after ∙ said.run) k_is
    (omega (arith, said.count_is, said.more_is))))
