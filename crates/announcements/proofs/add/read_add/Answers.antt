use Rattle.std.proofs.lemmas.Result.{err_from_is_err_and}
use Rattle.text.specs.Lines.{words_of}
use Rattle.announcements.proofs.AddParts.{no_via, no_path_behind, no_options_behind, no_com_behind}
use Rattle.announcements.proofs.AddKept.{add_kept}
use Rattle.announcements.proofs.Words.{form_more}
use Rattle.announcements.proofs.add.read_add.Goals as goal

pub returns-in_default : goal.returns-in_default
returns-in_default c = no_via (words_of c.args.rest.now) c.in_default.ensures

pub returns-in_err-found : goal.returns-in_err-found
returns-in_err-found c =
    let p = err_from_is_err_and c.from_residual.result c.from_residual.ensures.1 in
    rw (p.1, p.2) (form_more _ _ _ (no_path_behind (words_of c.args.rest.now) (words_of c.in-Some.via.rest.now) c.in-Some.via.net c.in-Some.via.gateway c.in-Some.ensures) c.in_err-found.ensures)

pub returns-in_default-read_options : goal.returns-in_default-read_options
returns-in_default-read_options c =
    let found = c.in_ok-found.found in
    let path = c.in_ok-found.ensures in
    no_options_behind (words_of c.args.rest.now) (words_of c.in-Some.via.rest.now) (words_of found.rest.now) c.in-Some.via.net c.in-Some.via.gateway path.raw found.origin
    c.in-Some.ensures path.is c.in_default-read_options.ensures

pub returns-in_err-coms : goal.returns-in_err-coms
returns-in_err-coms c =
    let p = err_from_is_err_and c.from_residual-in_err-coms.result c.from_residual-in_err-coms.ensures.1 in
    let found = c.in_ok-found.found in
    let path = c.in_ok-found.ensures in
    let options = c.in-Some-read_options.options in
    let read = c.in-Some-read_options.ensures in
    rw (p.1, p.2) (form_more _ _ _
    (no_com_behind (words_of c.args.rest.now) (words_of c.in-Some.via.rest.now) (words_of found.rest.now) (words_of options.rest.now) c.in-Some.via.net c.in-Some.via.gateway
    path.raw found.origin read.raw_med read.raw_lp read.raw_igp c.in-Some.ensures path.is read.begin)
    c.in_err-coms.ensures)

pub returns : goal.returns
returns c =
    let found = c.in_ok-found.found in
    let options = c.in-Some-read_options.options in
    add_kept (words_of c.args.rest.now) (words_of c.in-Some.via.rest.now) (words_of found.rest.now) (words_of options.rest.now) _ found.path found.origin options.med options.lp options.igp
    c.in_ok-coms.coms c.in-Some.ensures c.in_ok-found.ensures c.in-Some-read_options.ensures c.in_ok-coms.ensures c.given_of-given.ensures
