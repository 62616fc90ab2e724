-- What the next push of an exporter will do (`IsNext`): nothing, a quiet step, or a sending.
-- From: own.
-- Example: where no key is marked the next push does nothing.
use Rattle.std.specs.Prelude.{◌≡◌, [], Some, slice_get}
use Rattle.std.specs.Map.{keys_of}
use Rattle.bits_ip.specs.Prefix.{Net}
use Rattle.export_core.specs.declared.log.Key.{Key}
use Rattle.attrs.specs.declared.judge.Verdict.{Verdict}
use Rattle.attrs.specs.declared.route.Route.{Route}
use Rattle.export_core.specs.declared.exporter.Next.{Next}
use Rattle.export_core.specs.declared.exporter.Next.TheVariants as next
use Rattle.export_core.specs.declared.log.Sending.{Sending}
use Rattle.export_core.specs.declared.marks.Mark.{Mark}
use Rattle.export_core.specs.Calls.{IsNews, IsQuiet}
use Rattle.export_core.specs.Marks.{find}
use Rattle.export_core.specs.Passing.{passed}
use Rattle.export_core.specs.Standing.{standing_at}
use Rattle.export_core.specs.States.{State, value_for}

module _ {J : Type 0} where
  -- the first mark, and the key that it is of
  pub record IsFirst (k : Key) (m : Mark) (e : State J) : Type 0 where
    pub first : slice_get (keys_of e.marks) 0 ≡ Some k
    pub mark : find k e.marks ≡ Some m

  pub record WillBeQuiet
      (verdict : J → Net → Route → Verdict) (k : Key) (m : Mark) (e : State J) : Type 0 where
    pub is_first : IsFirst k m e
    pub quiet :
        IsQuiet m.due (passed (value_for verdict e) k m.candidate) (standing_at k e.log)

  pub record WillSend
      (verdict : J → Net → Route → Verdict) (m : Mark) (x : Sending) (e : State J) : Type 0 where
    pub is_first : IsFirst x.key m e
    pub at : x.at ≡ m.at
    pub value : x.value ≡ passed (value_for verdict e) x.key m.candidate
    pub news : IsNews m.due x.value (standing_at x.key e.log) x.again

  abbrev pub IsNext : (J → Net → Route → Verdict) → State J → Next → Type 0
  IsNext verdict e next.Nothing = e.marks ≡ []
  IsNext verdict e next.Quiet = (k : Key) × (m : Mark) × WillBeQuiet verdict k m e
  IsNext verdict e (next.Send x) = (m : Mark) × WillSend verdict m x e
