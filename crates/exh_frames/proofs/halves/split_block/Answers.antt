use Rattle.std.proofs.Common.{◌≡◌, ℕ, ◌-◌, ◌≤◌, Bool, true, false, List, [], ◌∷◌, ◌++◌, length, take, drop, replicate, slice_index, Some, refl, sym, ap, ◌∙◌, subst, arith}
use borrow.Rule.Slice.PartMut.{put_mid}
use Rattle.std.proofs.lemmas.List.{length-drop, length-take-le}
use Rattle.exh_prefix.specs.Prefix.{low_of}
use Rattle.exh_page.specs.declared.page.Page.TheVariants.{Live}
use Rattle.exh_page.specs.declared.page_head.PageHead.{PageHead}
use Rattle.exh_page.specs.declared.page_head.PageHead.TheVariants.{Live as LiveHead}
use Rattle.exh_page.specs.declared.record.Record.{Record}
use Rattle.exh_page.specs.PageHead.{count_in}
use Rattle.exh_page.specs.ShareLemmas.{both}
use Rattle.exh_codec.specs.Head.{head_bytes, head_with}
use Rattle.exh_codec.specs.PageImage.{padded}
use Rattle.exh_frames.specs.InPlace.{AreKeyed, HasContent, IsPlaceIn}
use Rattle.exh_frames.proofs.Contents.{has_records, length-bytes, used_at}
use Rattle.exh_frames.proofs.Keyed.{keyed_drop, keyed_front, keyed_some, keyed_take}
use Rattle.exh_frames.proofs.Laid.{cut_block, cut_end, cut_run, cut_start, left_share, other_block, right_share}
use Rattle.exh_frames.proofs.halves.split_block.Goals as goal

pub index_of_place-cut-requires : goal.index_of_place-cut-requires
index_of_place-cut-requires c =
    let records = c.requires.split.0 in
    let split = c.requires.split.1 in
    let page = Live c.args.prefix c.args.link records in
    (page, split.content, c.starts_of-starts.ensures page split.content, split.hashed)

pub offset_bounds-starts-cut : goal.offset_bounds-starts-cut
offset_bounds-starts-cut c =
    let records = c.requires.split.0 in
    let split = c.requires.split.1 in
    let block = c.args.block.now in
    let page = Live c.args.prefix c.args.link records in
    let at = c.starts_of-starts.ensures page split.content in
    let said = has_records block page split.content in
    let all : c.from-count.result ≡ length records = c.from-count.ensures ∙ said.1.count in
    let twin_is : c.in-Some-Some.twin ≡ c.args.prefix ++ true ∷ [] = c.in-Some-Some.ensures'.1 in
    let low_is : c.low.result ≡ low_of (c.args.prefix ++ true ∷ []) = c.low.ensures ∙ ap low_of twin_is in
    let cut = c.index_of_place-cut.result in
    let placed = c.index_of_place-cut.ensures page split.content at split.hashed in
    let place = subst (λ (n : ℕ). IsPlaceIn (n, []) records cut) low_is placed in
    let short = length-bytes records split.content.sized in
    let end = cut_end records c.starts_of-starts.result at cut c.from-count.result place.within all in
    let start = cut_start records c.starts_of-starts.result at cut c.from-count.result place.within all in
    let used = used_at records c.starts_of-starts.result c.from-count.result at all in
    let few = split.content.few in
    omega (arith, place.within, few)

pub bounds-starts-cut : goal.bounds-starts-cut
bounds-starts-cut c =
    let records = c.requires.split.0 in
    let split = c.requires.split.1 in
    let block = c.args.block.now in
    let page = Live c.args.prefix c.args.link records in
    let at = c.starts_of-starts.ensures page split.content in
    let said = has_records block page split.content in
    let all : c.from-count.result ≡ length records = c.from-count.ensures ∙ said.1.count in
    let twin_is : c.in-Some-Some.twin ≡ c.args.prefix ++ true ∷ [] = c.in-Some-Some.ensures'.1 in
    let low_is : c.low.result ≡ low_of (c.args.prefix ++ true ∷ []) = c.low.ensures ∙ ap low_of twin_is in
    let cut = c.index_of_place-cut.result in
    let placed = c.index_of_place-cut.ensures page split.content at split.hashed in
    let place = subst (λ (n : ℕ). IsPlaceIn (n, []) records cut) low_is placed in
    let short = length-bytes records split.content.sized in
    let end = cut_end records c.starts_of-starts.result at cut c.from-count.result place.within all in
    let start = cut_start records c.starts_of-starts.result at cut c.from-count.result place.within all in
    let used = used_at records c.starts_of-starts.result c.from-count.result at all in
    let few = split.content.few in
    omega (arith, place.within, few)

pub bounds-starts-count : goal.bounds-starts-count
bounds-starts-count c =
    let records = c.requires.split.0 in
    let split = c.requires.split.1 in
    let said = has_records c.args.block.now (Live c.args.prefix c.args.link records) split.content in
    omega (arith, c.from-count.ensures, said.1.count, split.content.few)

pub overflow_sub-count : goal.overflow_sub-count
overflow_sub-count c =
    let records = c.requires.split.0 in
    let split = c.requires.split.1 in
    let block = c.args.block.now in
    let page = Live c.args.prefix c.args.link records in
    let at = c.starts_of-starts.ensures page split.content in
    let said = has_records block page split.content in
    let all : c.from-count.result ≡ length records = c.from-count.ensures ∙ said.1.count in
    let twin_is : c.in-Some-Some.twin ≡ c.args.prefix ++ true ∷ [] = c.in-Some-Some.ensures'.1 in
    let low_is : c.low.result ≡ low_of (c.args.prefix ++ true ∷ []) = c.low.ensures ∙ ap low_of twin_is in
    let cut = c.index_of_place-cut.result in
    let placed = c.index_of_place-cut.ensures page split.content at split.hashed in
    let place = subst (λ (n : ℕ). IsPlaceIn (n, []) records cut) low_is placed in
    let short = length-bytes records split.content.sized in
    let end = cut_end records c.starts_of-starts.result at cut c.from-count.result place.within all in
    let start = cut_start records c.starts_of-starts.result at cut c.from-count.result place.within all in
    let used = used_at records c.starts_of-starts.result c.from-count.result at all in
    let few = split.content.few in
    omega (arith, place.within, all)

pub slice_bounds-lay_run-count : goal.slice_bounds-lay_run-count
slice_bounds-lay_run-count c =
    let records = c.requires.split.0 in
    let split = c.requires.split.1 in
    let block = c.args.block.now in
    let page = Live c.args.prefix c.args.link records in
    let at = c.starts_of-starts.ensures page split.content in
    let said = has_records block page split.content in
    let all : c.from-count.result ≡ length records = c.from-count.ensures ∙ said.1.count in
    let twin_is : c.in-Some-Some.twin ≡ c.args.prefix ++ true ∷ [] = c.in-Some-Some.ensures'.1 in
    let low_is : c.low.result ≡ low_of (c.args.prefix ++ true ∷ []) = c.low.ensures ∙ ap low_of twin_is in
    let cut = c.index_of_place-cut.result in
    let placed = c.index_of_place-cut.ensures page split.content at split.hashed in
    let place = subst (λ (n : ℕ). IsPlaceIn (n, []) records cut) low_is placed in
    let short = length-bytes records split.content.sized in
    let end = cut_end records c.starts_of-starts.result at cut c.from-count.result place.within all in
    let start = cut_start records c.starts_of-starts.result at cut c.from-count.result place.within all in
    let used = used_at records c.starts_of-starts.result c.from-count.result at all in
    let few = split.content.few in
    omega (arith, end)

pub slice_bounds-lay_run-start : goal.slice_bounds-lay_run-start
slice_bounds-lay_run-start c =
    let records = c.requires.split.0 in
    let split = c.requires.split.1 in
    let block = c.args.block.now in
    let page = Live c.args.prefix c.args.link records in
    let at = c.starts_of-starts.ensures page split.content in
    let said = has_records block page split.content in
    let all : c.from-count.result ≡ length records = c.from-count.ensures ∙ said.1.count in
    let twin_is : c.in-Some-Some.twin ≡ c.args.prefix ++ true ∷ [] = c.in-Some-Some.ensures'.1 in
    let low_is : c.low.result ≡ low_of (c.args.prefix ++ true ∷ []) = c.low.ensures ∙ ap low_of twin_is in
    let cut = c.index_of_place-cut.result in
    let placed = c.index_of_place-cut.ensures page split.content at split.hashed in
    let place = subst (λ (n : ℕ). IsPlaceIn (n, []) records cut) low_is placed in
    let short = length-bytes records split.content.sized in
    let end = cut_end records c.starts_of-starts.result at cut c.from-count.result place.within all in
    let start = cut_start records c.starts_of-starts.result at cut c.from-count.result place.within all in
    let used = used_at records c.starts_of-starts.result c.from-count.result at all in
    let few = split.content.few in
    omega (arith, end, start, used, short, few)

pub slice_bounds-lay_run-end : goal.slice_bounds-lay_run-end
slice_bounds-lay_run-end c =
    let records = c.requires.split.0 in
    let split = c.requires.split.1 in
    let block = c.args.block.now in
    let page = Live c.args.prefix c.args.link records in
    let at = c.starts_of-starts.ensures page split.content in
    let said = has_records block page split.content in
    let all : c.from-count.result ≡ length records = c.from-count.ensures ∙ said.1.count in
    let twin_is : c.in-Some-Some.twin ≡ c.args.prefix ++ true ∷ [] = c.in-Some-Some.ensures'.1 in
    let low_is : c.low.result ≡ low_of (c.args.prefix ++ true ∷ []) = c.low.ensures ∙ ap low_of twin_is in
    let cut = c.index_of_place-cut.result in
    let placed = c.index_of_place-cut.ensures page split.content at split.hashed in
    let place = subst (λ (n : ℕ). IsPlaceIn (n, []) records cut) low_is placed in
    let short = length-bytes records split.content.sized in
    let end = cut_end records c.starts_of-starts.result at cut c.from-count.result place.within all in
    let start = cut_start records c.starts_of-starts.result at cut c.from-count.result place.within all in
    let used = used_at records c.starts_of-starts.result c.from-count.result at all in
    let few = split.content.few in
    omega (arith, end, start, used, short, few)

pub lay_run-other-requires-clause-few : goal.lay_run-other-requires-clause-few
lay_run-other-requires-clause-few c =
    let records = c.requires.split.0 in
    let split = c.requires.split.1 in
    let block = c.args.block.now in
    let page = Live c.args.prefix c.args.link records in
    let at = c.starts_of-starts.ensures page split.content in
    let said = has_records block page split.content in
    let all : c.from-count.result ≡ length records = c.from-count.ensures ∙ said.1.count in
    let twin_is : c.in-Some-Some.twin ≡ c.args.prefix ++ true ∷ [] = c.in-Some-Some.ensures'.1 in
    let low_is : c.low.result ≡ low_of (c.args.prefix ++ true ∷ []) = c.low.ensures ∙ ap low_of twin_is in
    let cut = c.index_of_place-cut.result in
    let placed = c.index_of_place-cut.ensures page split.content at split.hashed in
    let place = subst (λ (n : ℕ). IsPlaceIn (n, []) records cut) low_is placed in
    let short = length-bytes records split.content.sized in
    let end = cut_end records c.starts_of-starts.result at cut c.from-count.result place.within all in
    let start = cut_start records c.starts_of-starts.result at cut c.from-count.result place.within all in
    let used = used_at records c.starts_of-starts.result c.from-count.result at all in
    let few = split.content.few in
    subst (λ (h : PageHead). count_in h ≤ 16) (sym c.live_head.ensures) (omega (arith, all, few))

pub lay_run-other-requires-clause-room : goal.lay_run-other-requires-clause-room
lay_run-other-requires-clause-room c =
    let records = c.requires.split.0 in
    let split = c.requires.split.1 in
    let block = c.args.block.now in
    let page = Live c.args.prefix c.args.link records in
    let at = c.starts_of-starts.ensures page split.content in
    let said = has_records block page split.content in
    let all : c.from-count.result ≡ length records = c.from-count.ensures ∙ said.1.count in
    let twin_is : c.in-Some-Some.twin ≡ c.args.prefix ++ true ∷ [] = c.in-Some-Some.ensures'.1 in
    let low_is : c.low.result ≡ low_of (c.args.prefix ++ true ∷ []) = c.low.ensures ∙ ap low_of twin_is in
    let cut = c.index_of_place-cut.result in
    let placed = c.index_of_place-cut.ensures page split.content at split.hashed in
    let place = subst (λ (n : ℕ). IsPlaceIn (n, []) records cut) low_is placed in
    let short = length-bytes records split.content.sized in
    let end = cut_end records c.starts_of-starts.result at cut c.from-count.result place.within all in
    let start = cut_start records c.starts_of-starts.result at cut c.from-count.result place.within all in
    let used = used_at records c.starts_of-starts.result c.from-count.result at all in
    let few = split.content.few in
    omega (arith, ap length (cut_run records c.starts_of-starts.result at cut c.from-count.result place.within all block said.0 said.1.bytes), end, start, used, short, few)

pub slice_bounds-fill-count : goal.slice_bounds-fill-count
slice_bounds-fill-count c =
    let records = c.requires.split.0 in
    let split = c.requires.split.1 in
    let block = c.args.block.now in
    let page = Live c.args.prefix c.args.link records in
    let at = c.starts_of-starts.ensures page split.content in
    let said = has_records block page split.content in
    let all : c.from-count.result ≡ length records = c.from-count.ensures ∙ said.1.count in
    let twin_is : c.in-Some-Some.twin ≡ c.args.prefix ++ true ∷ [] = c.in-Some-Some.ensures'.1 in
    let low_is : c.low.result ≡ low_of (c.args.prefix ++ true ∷ []) = c.low.ensures ∙ ap low_of twin_is in
    let cut = c.index_of_place-cut.result in
    let placed = c.index_of_place-cut.ensures page split.content at split.hashed in
    let place = subst (λ (n : ℕ). IsPlaceIn (n, []) records cut) low_is placed in
    let short = length-bytes records split.content.sized in
    let end = cut_end records c.starts_of-starts.result at cut c.from-count.result place.within all in
    let start = cut_start records c.starts_of-starts.result at cut c.from-count.result place.within all in
    let used = used_at records c.starts_of-starts.result c.from-count.result at all in
    let few = split.content.few in
    omega (arith, end)

pub slice_bounds-fill-start : goal.slice_bounds-fill-start
slice_bounds-fill-start c =
    let records = c.requires.split.0 in
    let split = c.requires.split.1 in
    let block = c.args.block.now in
    let page = Live c.args.prefix c.args.link records in
    let at = c.starts_of-starts.ensures page split.content in
    let said = has_records block page split.content in
    let all : c.from-count.result ≡ length records = c.from-count.ensures ∙ said.1.count in
    let twin_is : c.in-Some-Some.twin ≡ c.args.prefix ++ true ∷ [] = c.in-Some-Some.ensures'.1 in
    let low_is : c.low.result ≡ low_of (c.args.prefix ++ true ∷ []) = c.low.ensures ∙ ap low_of twin_is in
    let cut = c.index_of_place-cut.result in
    let placed = c.index_of_place-cut.ensures page split.content at split.hashed in
    let place = subst (λ (n : ℕ). IsPlaceIn (n, []) records cut) low_is placed in
    let short = length-bytes records split.content.sized in
    let end = cut_end records c.starts_of-starts.result at cut c.from-count.result place.within all in
    let start = cut_start records c.starts_of-starts.result at cut c.from-count.result place.within all in
    let used = used_at records c.starts_of-starts.result c.from-count.result at all in
    let few = split.content.few in
    omega (arith, end, start, used, short, few)

pub slice_bounds-fill-end : goal.slice_bounds-fill-end
slice_bounds-fill-end c =
    let records = c.requires.split.0 in
    let split = c.requires.split.1 in
    let block = c.args.block.now in
    let page = Live c.args.prefix c.args.link records in
    let at = c.starts_of-starts.ensures page split.content in
    let said = has_records block page split.content in
    let all : c.from-count.result ≡ length records = c.from-count.ensures ∙ said.1.count in
    let twin_is : c.in-Some-Some.twin ≡ c.args.prefix ++ true ∷ [] = c.in-Some-Some.ensures'.1 in
    let low_is : c.low.result ≡ low_of (c.args.prefix ++ true ∷ []) = c.low.ensures ∙ ap low_of twin_is in
    let cut = c.index_of_place-cut.result in
    let placed = c.index_of_place-cut.ensures page split.content at split.hashed in
    let place = subst (λ (n : ℕ). IsPlaceIn (n, []) records cut) low_is placed in
    let short = length-bytes records split.content.sized in
    let end = cut_end records c.starts_of-starts.result at cut c.from-count.result place.within all in
    let start = cut_start records c.starts_of-starts.result at cut c.from-count.result place.within all in
    let used = used_at records c.starts_of-starts.result c.from-count.result at all in
    let few = split.content.few in
    omega (arith, end, start, used, short, few)

pub put_head-requires : goal.put_head-requires
put_head-requires c =
    let records = c.requires.split.0 in
    let split = c.requires.split.1 in
    let block = c.args.block.now in
    let page = Live c.args.prefix c.args.link records in
    let at = c.starts_of-starts.ensures page split.content in
    let said = has_records block page split.content in
    let all : c.from-count.result ≡ length records = c.from-count.ensures ∙ said.1.count in
    let twin_is : c.in-Some-Some.twin ≡ c.args.prefix ++ true ∷ [] = c.in-Some-Some.ensures'.1 in
    let low_is : c.low.result ≡ low_of (c.args.prefix ++ true ∷ []) = c.low.ensures ∙ ap low_of twin_is in
    let cut = c.index_of_place-cut.result in
    let placed = c.index_of_place-cut.ensures page split.content at split.hashed in
    let place = subst (λ (n : ℕ). IsPlaceIn (n, []) records cut) low_is placed in
    let short = length-bytes records split.content.sized in
    let end = cut_end records c.starts_of-starts.result at cut c.from-count.result place.within all in
    let start = cut_start records c.starts_of-starts.result at cut c.from-count.result place.within all in
    let used = used_at records c.starts_of-starts.result c.from-count.result at all in
    let few = split.content.few in
    subst (λ (h : PageHead). count_in h ≤ 16) (sym c.live_head-2.ensures) (omega (arith, place.within, few))

pub returns-clause-left : goal.returns-clause-left
returns-clause-left c records split =
    let block = c.args.block.now in
    let page = Live c.args.prefix c.args.link records in
    let at = c.starts_of-starts.ensures page split.content in
    let said = has_records block page split.content in
    let all : c.from-count.result ≡ length records = c.from-count.ensures ∙ said.1.count in
    let twin_is : c.in-Some-Some.twin ≡ c.args.prefix ++ true ∷ [] = c.in-Some-Some.ensures'.1 in
    let low_is : c.low.result ≡ low_of (c.args.prefix ++ true ∷ []) = c.low.ensures ∙ ap low_of twin_is in
    let cut = c.index_of_place-cut.result in
    let placed = c.index_of_place-cut.ensures page split.content at split.hashed in
    let place = subst (λ (n : ℕ). IsPlaceIn (n, []) records cut) low_is placed in
    let short = length-bytes records split.content.sized in
    let end = cut_end records c.starts_of-starts.result at cut c.from-count.result place.within all in
    let start = cut_start records c.starts_of-starts.result at cut c.from-count.result place.within all in
    let used = used_at records c.starts_of-starts.result c.from-count.result at all in
    let few = split.content.few in
    let begun = both _ _ records split.begun split.words in
    let share = left_share c.args.prefix c.requires.short records cut place begun in
    let starts = c.starts_of-starts.result in
    let n = c.from-count.result in
    let half = c.in-Some-Some.left in
    let half_is : half ≡ c.args.prefix ++ false ∷ [] = c.in-Some-Some.ensures.1 in
    let k : ℕ = slice_index starts n - slice_index starts cut in
    let zeros = c.fill.new.self in
    let long : length (take k (drop (slice_index starts cut) block)) ≡ k = length-take-le k (drop (slice_index starts cut) block) (omega (arith, length-drop (slice_index starts cut) block, c.told-block, end, start, used, short, few)) in
    let zeros_is : zeros ≡ replicate k 0 = c.fill.ensures.after (λ y is. is) ∙ ap (λ (n : ℕ). replicate n 0) long in
    let after : List ℕ = put_mid (slice_index starts cut) k block zeros in
    let head : PageHead = LiveHead half (Some c.args.right) cut in
    let new : c.put_head.new.block ≡ head_bytes (head_with head) ++ drop 16 after = c.put_head.ensures ∙ ap (λ (h : PageHead). head_bytes (head_with h) ++ drop 16 after) c.live_head-2.ensures in
    let cut_is = cut_block records starts at cut n place.within all c.args.prefix half c.args.link (Some c.args.right) block zeros k split.content refl zeros_is in
    subst (λ (l : List Record). HasContent c.put_head.new.block (Live (c.args.prefix ++ false ∷ []) (Some c.args.right) l)) (sym share)
    (subst (λ (p : List Bool). HasContent c.put_head.new.block (Live p (Some c.args.right) (take cut records))) half_is
    (subst (λ (b : List ℕ). HasContent b (Live half (Some c.args.right) (take cut records))) (sym new) cut_is))

pub returns-clause-right : goal.returns-clause-right
returns-clause-right c records split =
    let block = c.args.block.now in
    let page = Live c.args.prefix c.args.link records in
    let at = c.starts_of-starts.ensures page split.content in
    let said = has_records block page split.content in
    let all : c.from-count.result ≡ length records = c.from-count.ensures ∙ said.1.count in
    let twin_is : c.in-Some-Some.twin ≡ c.args.prefix ++ true ∷ [] = c.in-Some-Some.ensures'.1 in
    let low_is : c.low.result ≡ low_of (c.args.prefix ++ true ∷ []) = c.low.ensures ∙ ap low_of twin_is in
    let cut = c.index_of_place-cut.result in
    let placed = c.index_of_place-cut.ensures page split.content at split.hashed in
    let place = subst (λ (n : ℕ). IsPlaceIn (n, []) records cut) low_is placed in
    let short = length-bytes records split.content.sized in
    let end = cut_end records c.starts_of-starts.result at cut c.from-count.result place.within all in
    let start = cut_start records c.starts_of-starts.result at cut c.from-count.result place.within all in
    let used = used_at records c.starts_of-starts.result c.from-count.result at all in
    let few = split.content.few in
    let begun = both _ _ records split.begun split.words in
    let share = right_share c.args.prefix c.requires.short records cut place begun in
    let starts = c.starts_of-starts.result in
    let n = c.from-count.result in
    let half = c.in-Some-Some.twin in
    let other = c.lay_run-other.result in
    let run = take (slice_index starts n - slice_index starts cut) (drop (slice_index starts cut) block) in
    let head : PageHead = LiveHead half c.args.link (n - cut) in
    let laid : take 4064 other ≡ padded 4064 (head_bytes (head_with head) ++ run) = c.lay_run-other.ensures ∙ ap (λ (h : PageHead). padded 4064 (head_bytes (head_with h) ++ run)) c.live_head.ensures in
    let count : n - cut ≡ length (drop cut records) = omega (arith, all, length-drop cut records) in
    let is = other_block records starts at cut n place.within all c.args.prefix half c.args.link c.args.link block other run (n - cut) split.content count (cut_run records starts at cut n place.within all block said.0 said.1.bytes) laid in
    subst (λ (l : List Record). HasContent other (Live (c.args.prefix ++ true ∷ []) c.args.link l)) (sym share)
    (subst (λ (p : List Bool). HasContent other (Live p c.args.link (drop cut records))) twin_is is)

pub pseudokeys_from-requires-clause-within : goal.pseudokeys_from-requires-clause-within
pseudokeys_from-requires-clause-within c =
    let records = c.requires.split.0 in
    let split = c.requires.split.1 in
    let page = Live c.args.prefix c.args.link records in
    let said = has_records c.args.block.now page split.content in
    let placed = c.index_of_place-cut.ensures page split.content (c.starts_of-starts.ensures page split.content) split.hashed in
    omega (arith, placed.within, c.from-count.ensures, said.1.count)

pub pseudokeys_from-requires-clause-few : goal.pseudokeys_from-requires-clause-few
pseudokeys_from-requires-clause-few c =
    let records = c.requires.split.0 in
    let split = c.requires.split.1 in
    let said = has_records c.args.block.now (Live c.args.prefix c.args.link records) split.content in
    let few = split.content.few in
    omega (arith, few, c.from-count.ensures, said.1.count)

pub returns-clause-left_keyed : goal.returns-clause-left_keyed
returns-clause-left_keyed c records split =
    let page = Live c.args.prefix c.args.link records in
    let at = c.starts_of-starts.ensures page split.content in
    let twin_is : c.in-Some-Some.twin ≡ c.args.prefix ++ true ∷ [] = c.in-Some-Some.ensures'.1 in
    let low_is : c.low.result ≡ low_of (c.args.prefix ++ true ∷ []) = c.low.ensures ∙ ap low_of twin_is in
    let cut = c.index_of_place-cut.result in
    let placed = c.index_of_place-cut.ensures page split.content at split.hashed in
    let place = subst (λ (n : ℕ). IsPlaceIn (n, []) records cut) low_is placed in
    let begun = both _ _ records split.begun split.words in
    let share = left_share c.args.prefix c.requires.short records cut place begun in
    subst (λ (l : List Record). AreKeyed l c.args.pseudokeys.now) (sym share) (keyed_take records c.args.pseudokeys.now cut split.hashed.keyed)

pub returns-clause-right_keyed : goal.returns-clause-right_keyed
returns-clause-right_keyed c records split =
    let page = Live c.args.prefix c.args.link records in
    let at = c.starts_of-starts.ensures page split.content in
    let twin_is : c.in-Some-Some.twin ≡ c.args.prefix ++ true ∷ [] = c.in-Some-Some.ensures'.1 in
    let low_is : c.low.result ≡ low_of (c.args.prefix ++ true ∷ []) = c.low.ensures ∙ ap low_of twin_is in
    let cut = c.index_of_place-cut.result in
    let placed = c.index_of_place-cut.ensures page split.content at split.hashed in
    let place = subst (λ (n : ℕ). IsPlaceIn (n, []) records cut) low_is placed in
    let begun = both _ _ records split.begun split.words in
    let share = right_share c.args.prefix c.requires.short records cut place begun in
    let said = has_records c.args.block.now page split.content in
    let n : ℕ = c.from-count.result - cut in
    let pseudokeys : List ℕ = c.args.pseudokeys.now in
    let all : length (drop cut records) ≡ n = omega (arith, length-drop cut records, c.from-count.ensures, said.1.count) in
    let run = keyed_some (drop cut records) (drop cut pseudokeys) n all (keyed_drop records pseudokeys cut split.hashed.keyed) in
    subst (λ (l : List Record). AreKeyed l c.pseudokeys_from.result) (sym share)
    (subst (AreKeyed (drop cut records)) (sym c.pseudokeys_from.ensures) (keyed_front (drop cut records) (take n (drop cut pseudokeys)) (drop n pseudokeys) run))
