-- What replies say of a call.
use Rattle.std.specs.Prelude.{List, ℕ, Option, Some, None}
use Rattle.exh_calls.specs.declared.reply.Reply.{Reply}
use Rattle.exh_calls.specs.declared.reply.Reply.TheVariants.{Is, New, Was, Swapped, Differs}
use Rattle.exh_map.specs.declared.put.Put.{Put}
use Rattle.exh_map.specs.declared.put.Put.TheVariants as put
use Rattle.exh_map.specs.declared.put_new.PutNew.{PutNew}
use Rattle.exh_map.specs.declared.put_new.PutNew.TheVariants as put_new
use Rattle.exh_map.specs.declared.swap.Swap.{Swap}
use Rattle.exh_map.specs.declared.swap.Swap.TheVariants as swap

-- of a put
abbrev pub put_said : Reply → Put
put_said New = put.New
put_said (Was value) = put.Was value
put_said reply = put.Full

-- of a put of a key that has no value, or of a get in its place
abbrev pub put_new_said : Reply → PutNew
put_new_said New = put_new.New
put_new_said (Is value) = put_new.Is value
put_new_said (Was value) = put_new.Is value
put_new_said reply = put_new.Full

-- of a swap
abbrev pub swap_said : Reply → Swap
swap_said Swapped = swap.Swapped
swap_said (Differs value) = swap.Differs value
swap_said reply = swap.None

-- the value that a reply names, if it names one
abbrev pub value_said : Reply → Option (List ℕ)
value_said (Is value) = Some value
value_said (Was value) = Some value
value_said (Differs value) = Some value
value_said reply = None
