use Rattle.std.proofs.Common.{◌∙◌, subst, sym}
use mathlib.Core.List.{IsPrefix}
use Rattle.jour.specs.Seats.{front}
use Rattle.room_run.proofs.telling.tell_turns.Goals as goal

pub tell_maker-requires : goal.tell_maker-requires
tell_maker-requires c = record { here = c.requires.here.1 ∙ sym c.hear_maker.ensures.same.0 }

pub returns-clause-turns : goal.returns-clause-turns
returns-clause-turns c =
    (c.tell_maker.ensures.here.0 ∙ c.hear_maker.ensures.same.0, c.tell_maker.ensures.list ∙ c.hear_maker.ensures.same.1)

pub returns-clause-heard : goal.returns-clause-heard
returns-clause-heard c = record {
  here = c.tell_maker.ensures.here.1;
  number = c.tell_maker.ensures.maker.1;
  grown = c.tell_maker.ensures.prefix;
  said = c.tell_maker.ensures.receipts;
  heard = subst (IsPrefix (front c.args.other.now.1)) (sym (c.tell_maker.ensures.maker.0 ∙ c.tell_maker.ensures.list)) c.hear_maker.ensures.heard;
}

pub returns-clause-all : goal.returns-clause-all
returns-clause-all c = c.tell_maker.ensures.maker.0 ∙ c.tell_maker.ensures.list ∙ c.hear_maker.ensures.same.1
