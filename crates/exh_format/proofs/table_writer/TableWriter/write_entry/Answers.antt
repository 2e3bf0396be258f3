use Rattle.std.proofs.Common.{◌≡◌, [], ◌++◌, length, sym, ap, ◌∙◌, subst, rules}
use Rattle.exh_prefix.specs.declared.version.TheConstants.{WRITTEN}
use Rattle.exh_prefix.specs.Layout.{written_version}
use Rattle.exh_prefix.specs.LayoutLemmas.{layout_fits}
use Rattle.exh_stream.specs.Output.{Takes}
use Rattle.exh_stream.specs.OutputLemmas.{OnErr-from}
use Rattle.exh_format.specs.Writing.{on_its_way, waiting_images}
use Rattle.exh_format.proofs.Written.{follows, joins, stays_out, stops_before}
use Rattle.exh_format.proofs.table_writer.TableWriter.write_entry.Goals as goal
use Rattle.exh_format.proofs.table_writer.TableWriter.write_entry.Goals.{then-is_full+in_ok-write_images, else-is_full+in_ok-push}

pub returns-in_err-write_images-clause-err : goal.returns-in_err-write_images-clause-err
returns-in_err-write_images-clause-err g c =
    let old = on_its_way c.args.output.now c.args.self.now in
    let full : length old.images ≡ 4064 = search rules in
    OnErr-from _ (stops_before g.W.Write.contents written_version old (on_its_way c.write_images.new.output c.write_images.new.self) c.args.item.now full c.in_err-write_images.ensures.err)

pub returns-in_err-push-clause-err : goal.returns-in_err-push-clause-err
returns-in_err-push-clause-err g c = OnErr-from _ (stays_out g.W.Write.contents written_version (on_its_way c.args.output.now c.args.self.now) _ c.args.item.now c.in_err-push.ensures.err)

pub returns-clause-ok : goal.returns-clause-ok
returns-clause-ok g c =
    let contents = g.W.Write.contents in
    let old = on_its_way c.args.output.now c.args.self.now in
    elim c.if-is_full.branch [
      | then-is_full+in_ok-write_images w ↦
          let full : length old.images ≡ 4064 = search rules in
          let waits = c.push-2.ensures ∙ ap (λ bytes. bytes ++ c.to_image-image.result) (ap waiting_images w.self-is ∙ w.in_ok-write_images.ensures.none) ∙ c.to_image-image.ensures.image written_version (layout_fits WRITTEN) c.requires in
          follows contents written_version old _ c.args.item.now full (subst (λ mid. Takes contents old.output mid _) (sym w.output-is) w.in_ok-write_images.ensures.ok) waits
      | else-is_full+in_ok-push w ↦
          joins contents written_version old _ c.args.item.now (subst (λ mid. Takes contents old.output mid []) (sym w.output-is) w.in_ok-push.ensures.ok)
          (c.push-2.ensures ∙ ap (λ bytes. bytes ++ c.to_image-image.result) (ap waiting_images w.self-is) ∙ ap (λ image. old.images ++ image) (c.to_image-image.ensures.image written_version (layout_fits WRITTEN) c.requires))
    ]

pub returns-in_err-write_images-clause-valid : goal.returns-in_err-write_images-clause-valid
returns-in_err-write_images-clause-valid g c = c.to_image-image.ensures.valid written_version c.requires

pub returns-in_err-push-clause-valid : goal.returns-in_err-push-clause-valid
returns-in_err-push-clause-valid g c = c.to_image-image.ensures.valid written_version c.requires

pub returns-clause-valid : goal.returns-clause-valid
returns-clause-valid g c = c.to_image-image.ensures.valid written_version c.requires
