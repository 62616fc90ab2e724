use Rattle.std.proofs.Common.{◌<◌, ◌∙◌, refl, arith, length}
use Rattle.std.proofs.lemmas.Option.{slice_get_read}
use Rattle.table_shared.specs.Records.{content_after}
use Rattle.room_actors.proofs.show.answer.Goals as goal

pub returns-clause-answered : goal.returns-clause-answered
returns-clause-answered g c =
    let view = c.in-Ok.ensures.view in
    let said = view.shows.0 in
    let content = content_after c.snapshot.new.pass.1.seen.terms.opening said in
    let n = c.requires.table in
    let m = c.requires.passes.count in
    let w : c.args.query.now.table < length c.args.passes.now.items = omega (arith, n, m) in
    record {
      number_is = refl;
      query = c.args.query.now;
      query_at = c.requires.query;
      table = refl;
      pass = c.index_mut-pass.result.now;
      pass_at = slice_get_read c.args.passes.now.items (length c.args.passes.now.items) c.args.query.now.table c.index_mut-pass.result.now refl w c.index_mut-pass.ensures.value;
      pass_new = c.snapshot.new.pass;
      passes_are = refl;
      pass_grown = (c.snapshot.ensures.here, c.snapshot.ensures.prefix);
      position = view.told.seen;
      text = (
        said,
        view.shows.1,
        c.in-Ok-answer.ensures content (record { all = view.all; shown = view.shows.2; rows_are = c.as_slice.ensures ∙ view.rows; total_is = view.total }),
      );
    }
