-- Files of which nothing was asked yet: a crash leaves what they have.
use Rattle.std.proofs.Common.{◌≡◌, ℕ, Bool, List, [], ◌∷◌, inl, inr, sym, subst}
use Rattle.sqlite_disk.specs.Events.{Event, replay, settled}
use Rattle.sqlite_disk.specs.History.{MayLeave}

-- what a crash may leave of a file after these events
abbrev Left : Bool → List ℕ → List Event → List ℕ → Type 0
Left mixes start events c = MayLeave mixes (replay start events).seen (replay start events).synced (replay start events).steps c

just_settled : (mixes : Bool) (start : List ℕ) (key : ℕ) (c : List ℕ) → Left mixes start (settled key ∷ []) c → c ≡ (replay start (settled key ∷ [])).seen
just_settled mixes start key c (inl same) = same
just_settled mixes start key c (inr same) = same

pub only_fresh : (mixes : Bool) (start : List ℕ) (key : ℕ) (events : List Event) → events ≡ settled key ∷ [] → (c : List ℕ) → Left mixes start events c → c ≡ (replay start events).seen
only_fresh mixes start key events is c = subst (λ all. Left mixes start all c → c ≡ (replay start all).seen) (sym is) (just_settled mixes start key c)
