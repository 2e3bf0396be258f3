use Rattle.std.proofs.Common.{◌≡◌, ℕ, ◌+◌, ◌-◌, ◌≤◌, List, [], ◌++◌, length, take, drop, append-nil, length-append, length-drop, sym, ap, ◌∙◌, arith}
use Rattle.std.specs.Vec.{with_items}
use Rattle.std.proofs.lemmas.List.{take_all, with_items_is, length-replicate}
use Rattle.std.proofs.lemmas.List.Edits.{length-paste}
use lib.ListN.{replicate}
use lib.Seq.{paste}
use borrow.Rule.Slice.PartMut.{put_mid}
use Rattle.exh_page.proofs.packed_records.put_text.Goals as goal
use Rattle.exh_page.proofs.packed_records.put_text.Goals.{then-new_end-end+in_ok-resize, else-new_end-end}
use Rattle.exh_page.proofs.PackedEdits.{text_put, length-put_mid}

-- what is done once there is room
put : (c : goal.After-truncate) (pad : List ℕ) → c.if-new_end-end.texts.items ≡ c.args.texts.now.items ++ pad
    → c.args.start + length c.args.key.now + length c.args.value.now + (c.len-old_len.result - c.args.end) ≤ length (c.args.texts.now.items ++ pad)
    → c.truncate.new.self.items ≡ take c.args.start c.args.texts.now.items ++ ((c.args.key.now ++ c.args.value.now) ++ drop c.args.end c.args.texts.now.items)
put c pad held_is room =
    let old : List ℕ = c.args.texts.now.items in
    let start : ℕ = c.args.start in
    let end : ℕ = c.args.end in
    let key : List ℕ = c.args.key.now in
    let value : List ℕ = c.args.value.now in
    let middle : ℕ = start + length key in
    let new_end : ℕ = middle + length value in
    let back : ℕ = c.len-old_len.result - end in
    let lent : List ℕ = c.deref_mut.result.now in
    let lent_next : List ℕ = c.deref_mut-2.result.now in
    let with_key : List ℕ = put_mid start (middle - start) lent c.copy_from_slice.new.self in
    let with_value : List ℕ = put_mid middle (new_end - middle) lent_next c.copy_from_slice-2.new.self in
    let moved : c.move_tail.new.texts.items ≡ paste (old ++ pad) new_end (drop end (old ++ pad)) back =
    c.move_tail.ensures.items ∙ ap (λ bytes. paste bytes new_end (drop end bytes) back) held_is in
    let long : length c.move_tail.new.texts.items ≡ length (old ++ pad) =
    ap length moved ∙ length-paste (old ++ pad) new_end (drop end (old ++ pad)) back room (omega (arith, length-drop end (old ++ pad), length-append old pad)) in
    let key_long : length with_key ≡ length c.move_tail.new.texts.items =
    length-put_mid lent c.copy_from_slice.new.self start (middle - start) (omega (arith, ap length c.copy_from_slice.ensures.after)) (omega (arith, ap length c.deref_mut.ensures.value))
    ∙ ap length c.deref_mut.ensures.value in
    let key_put : lent_next ≡ with_key = c.deref_mut-2.ensures.value ∙ with_items_is c.move_tail.new.texts with_key (omega arith) in
    let value_long : length with_value ≡ length c.move_tail.new.texts.items =
    length-put_mid lent_next c.copy_from_slice-2.new.self middle (new_end - middle) (omega (arith, ap length c.copy_from_slice-2.ensures.after)) (omega (arith, ap length key_put))
    ∙ ap length key_put ∙ key_long in
    let both_put : c.truncate.new.self.items ≡ take (new_end + back) with_value =
    c.truncate.ensures.items ∙ ap (take (new_end + back)) (with_items_is (with_items c.move_tail.new.texts with_key) with_value (omega arith)) in
    let key_is : lent_next ≡ put_mid start (middle - start) (paste (old ++ pad) new_end (drop end (old ++ pad)) back) key =
    key_put ∙ ap (λ bytes. put_mid start (middle - start) bytes c.copy_from_slice.new.self) (c.deref_mut.ensures.value ∙ moved)
    ∙ ap (put_mid start (middle - start) (paste (old ++ pad) new_end (drop end (old ++ pad)) back)) c.copy_from_slice.ensures.after in
    both_put
    ∙ ap (λ bytes. take (new_end + back) (put_mid middle (new_end - middle) lent_next bytes)) c.copy_from_slice-2.ensures.after
    ∙ ap (λ bytes. take (new_end + back) (put_mid middle (new_end - middle) bytes value)) key_is
    ∙ text_put old pad key value start end (middle - start) (new_end - middle) back c.requires.order (omega arith) (omega arith) (omega arith) room

pub returns-clause-ok : goal.returns-clause-ok
returns-clause-ok c =
    elim c.if-new_end-end.branch [
      | then-new_end-end+in_ok-resize w ↦
          let added : ℕ = c.len-old_len.result + (c.args.start + length c.args.key.now + length c.args.value.now - c.args.end) in
          let pad : List ℕ = replicate (added - c.args.texts.now.len) 0 in
          let held : c.if-new_end-end.texts.items ≡ c.args.texts.now.items ++ pad =
          ap (λ v. v.items) w.texts-is ∙ w.in_ok-resize.ensures.items ∙ ap (λ bytes. bytes ++ pad) (take_all added c.args.texts.now.items (omega arith)) in
          put c pad held (omega (arith, length-append c.args.texts.now.items pad, length-replicate {A = ℕ} (added - c.args.texts.now.len) 0))
      | else-new_end-end w ↦
          put c [] (ap (λ v. v.items) w.texts-is ∙ sym (append-nil c.args.texts.now.items)) (omega (arith, length-append c.args.texts.now.items []))
    ]
