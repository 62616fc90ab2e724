-- The filters by name are among those that are written.
use Rattle.std.proofs.Common.{◌≡◌, arith, List, [], ◌∷◌, ◌++◌, refl, sym, ap, ◌∙◌, append_assoc, append-nil, Contains}
use Rattle.conf_ast.specs.Configurations as conf
use Rattle.conf_ast.specs.Filters.{Statements}
use Rattle.conf_check.specs.Checked.{Source, filter_source, filter_sources}
use Rattle.conf_system.specs.Written.{IsWritten}
use Rattle.conf_system.proofs.Every.{Every, join, of_one, weaker}

-- it is written in these statements, which stand behind the others
abbrev IsWrittenBehind : (before ds : List conf.Declaration) → Source → Type 0
IsWrittenBehind before ds s =
    (front : List conf.Declaration) × (s.0 ≡ before ++ front) × IsWritten ds front s.1

one_written : (before : List conf.Declaration) (d : conf.Declaration) (ds : List conf.Declaration)
    → Every (IsWrittenBehind before (d ∷ ds)) (filter_source before d)
one_written before (conf.DefineFilter at name ss) ds =
    let d = conf.DefineFilter at name ss in
    (([], sym (append-nil before), (d, ds, refl, (0, omega arith, refl))), tt)
one_written before (conf.RouterId a) ds = tt
one_written before conf.Log ds = tt
one_written before (conf.Define name v) ds = tt
one_written before (conf.Table at family name) ds = tt
one_written before (conf.DefineFunction f) ds = tt
one_written before (conf.Device name semicolon) ds = tt
one_written before (conf.Static p) ds = tt
one_written before (conf.Bgp p) ds = tt
one_written before (conf.Pipe p) ds = tt

written_more : (d : conf.Declaration) (ds front : List conf.Declaration) (ss : Statements)
    → IsWritten ds front ss → IsWritten (d ∷ ds) (d ∷ front) ss
written_more d ds front ss w =
    (w.0, w.1, ap (λ (es : List conf.Declaration). d ∷ es) w.2, w.3)

behind_more : (before : List conf.Declaration) (d : conf.Declaration)
    (ds : List conf.Declaration) (s : Source) → IsWrittenBehind (before ++ d ∷ []) ds s
    → IsWrittenBehind before (d ∷ ds) s
behind_more before d ds s w =
    (d ∷ w.0, w.1 ∙ append_assoc before (d ∷ []) w.0, written_more d ds w.0 s.1 w.2)

all_written : (before ds : List conf.Declaration)
    → Every (IsWrittenBehind before ds) (filter_sources before ds)
all_written before [] = tt
all_written before (d ∷ ds) =
    join (IsWrittenBehind before (d ∷ ds)) (filter_source before d)
    (filter_sources (before ++ d ∷ []) ds) (one_written before d ds)
    (weaker (IsWrittenBehind (before ++ d ∷ []) ds) (IsWrittenBehind before (d ∷ ds))
    (behind_more before d ds) (filter_sources (before ++ d ∷ []) ds)
    (all_written (before ++ d ∷ []) ds))

front_is : (ds front before : List conf.Declaration) (ss : Statements) → before ≡ front
    → IsWritten ds front ss → IsWritten ds before ss
front_is ds front before ss is w =
    (w.0, w.1, w.2 ∙ ap (λ (es : List conf.Declaration). es ++ w.0 ∷ w.1) (sym is), w.3)

pub named_written : (ds : List conf.Declaration) (s : Source) → Contains (filter_sources [] ds) s
    → IsWritten ds s.0 s.1
named_written ds s c =
    let w = of_one (IsWrittenBehind [] ds) (filter_sources [] ds) s (all_written [] ds) c in
    front_is ds w.0 s.0 s.1 w.1 w.2
