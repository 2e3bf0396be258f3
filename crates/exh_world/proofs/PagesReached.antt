-- What a split or merge is computed to be is never that a page is out of reach.
use Rattle.std.proofs.Common.{ℕ, Bool, true, false, List, length, slice_get, Option, None, Some, Result, Err}
use Rattle.std.specs.Prelude.{◌≢◌, ◌+◌, ◌-◌, ◌^◌, nat_eq, nat_le, nat_lt, if◌then◌else◌}
use Rattle.std.specs.Option.{option_map_or}
use Rattle.exh_prefix.specs.declared.prefix.TheConstants.{LIMIT}
use Rattle.exh_notice.specs.declared.notice.Notice.{Notice}
use Rattle.exh_page.specs.declared.page.Page.{Page as PageType}
use Rattle.exh_page.specs.declared.page.Page.TheVariants.{Live, Forward}
use Rattle.exh_page.specs.declared.record.Record.{Record}
use Rattle.exh_page.specs.Page.{records_of}
use Rattle.exh_legal.specs.ChangeNumbers.{number_at}
use Rattle.exh_ward.specs.MergeFunction.{buddy_number, is_left_child, merge_of, merge_of_both, merge_of_page, parent_of}
use Rattle.exh_ward.specs.SplitFunction.{split_of, split_of_live, split_of_page}
use Rattle.exh_ward.specs.WardState.{WardState}
use Rattle.exh_ward.specs.declared.ward_fault.WardFault.{WardFault}
use Rattle.exh_ward.specs.declared.ward_fault.WardFault.TheVariants.{Page}

abbrev Reaches : Result Notice WardFault → Type 0
Reaches result = result ≢ Err Page

either : (first : Bool) (one other : Result Notice WardFault) → Reaches one → Reaches other → Reaches (if first then one else other)
either true one other reached reached_too = reached
either false one other reached reached_too = reached_too

found : {A : Type 0} (go : A → Result Notice WardFault) (there : Option A) (other : Result Notice WardFault) → ((x : A) → Reaches (go x)) → Reaches other → Reaches (option_map_or go there other)
found go None other reached reached_too = reached_too
found go (Some x) other reached reached_too = reached x

module _ {K : Type 0} (ward : WardState K) where
  live_reached : (prefix : List Bool) (records : List Record) → Reaches (split_of_live ward prefix records)
  live_reached prefix records = either (nat_lt (length records) ward.cap) _ _ (λ same. cc) (either (nat_le LIMIT (length prefix)) _ _ (λ same. cc) (λ same. cc))

  split_page_reached : (page : PageType) → Reaches (split_of_page ward page)
  split_page_reached (Forward low target) = λ same. cc
  split_page_reached (Live prefix link records) = live_reached prefix records

  pub split_reached : (at : ℕ) → Reaches (split_of ward at)
  unfolding split_of
  split_reached at = found (split_of_page ward) (slice_get ward.pages at) _ split_page_reached (λ same. cc)

  both_reached : (parent : List Bool) (sum : ℕ) → Reaches (merge_of_both ward parent sum)
  both_reached parent sum = either (nat_lt ward.cap sum) _ _ (λ same. cc) (either (nat_eq (number_at ward.table parent) (2 ^ 32 - 1)) _ _ (λ same. cc) (λ same. cc))

  merge_page_reached : (page : PageType) → Reaches (merge_of_page ward page)
  merge_page_reached (Forward low target) = λ same. cc
  merge_page_reached (Live prefix link records) =
      either (is_left_child ward prefix) _ _
      (found (λ buddy. merge_of_both ward (parent_of prefix) (length records + length (records_of buddy))) (slice_get ward.pages (buddy_number ward.pages (parent_of prefix))) _ (λ buddy. both_reached (parent_of prefix) (length records + length (records_of buddy))) (λ same. cc))
      (λ same. cc)

  pub merge_reached : (at : ℕ) → Reaches (merge_of ward at)
  unfolding merge_of
  merge_reached at = found (merge_of_page ward) (slice_get ward.pages at) _ merge_page_reached (λ same. cc)
