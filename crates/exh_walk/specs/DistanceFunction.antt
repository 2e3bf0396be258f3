-- The distance of a page as a function, for whoever computes with it.
use Rattle.std.specs.Prelude.{ℕ, zero, suc, ◌+◌, List, slice_get}
use Rattle.std.specs.Option.{option_map_or}
use Rattle.exh_prefix.specs.declared.prefix.TheConstants.{LIMIT}
use Rattle.exh_prefix.specs.Prefix.{low_of}
use Rattle.exh_page.specs.declared.page.Page.{Page}
use Rattle.exh_page.specs.declared.page.Page.TheVariants.{Live, Forward}
use Rattle.exh_ward.specs.Distance.{live_between, live_pages}

-- of a forwarding page one more than its target's
abbrev pub distance_at : List Page → ℕ → (ℕ → ℕ) → Page → ℕ
distance_at pages pseudokey of_target (Live prefix right records) = live_between pages (low_of prefix) pseudokey
distance_at pages pseudokey of_target (Forward low target) = suc (of_target target)

-- over fewer than so many forwarding pages; 0 where there is no such page
abbrev pub distance_within : List Page → ℕ → ℕ → ℕ → ℕ
distance_within pages pseudokey zero from = 0
distance_within pages pseudokey (suc most) from = option_map_or (distance_at pages pseudokey (distance_within pages pseudokey most)) (slice_get pages from) 0

-- a legal ward has no way over more forwarding pages
unfoldable pub distance_of : List Page → ℕ → ℕ → ℕ
distance_of pages from pseudokey = distance_within pages pseudokey (suc (LIMIT + live_pages pages)) from
