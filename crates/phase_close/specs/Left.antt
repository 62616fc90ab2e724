-- What is left of a protocol once its phase has ended (`IsProtocolLeft`): its turns are one list, of
-- which each hand has its own, and what these give is what its port has made and its stamp has
-- marked. With its channel (`IsSessionLeft`) it has the channel's marks in place of the stamp.
-- Operations are read backwards; entries, records of operations, changes and receipts are in their
-- order.
-- Not modelled: phases with a fault, which are cut off.
-- From: own.
-- Example: behind a phase of one `add` there is one turn, of the actor's hand, and one change.
use Rattle.std.specs.Prelude.{◌≡◌, ℕ, List, ◌++◌, map, reverse, IfSome, Option, Some, None, option_map, ⊤}
use Rattle.std.specs.List.{AllByRecursion}
use Rattle.atomic_table.specs.Seated.{TableId}
use Rattle.attrs.specs.declared.judge.Verdict.{Verdict}
use Rattle.attrs.specs.declared.route.Change.{Change}
use Rattle.attrs.specs.declared.route.Route.{Route}
use Rattle.bits_ip.specs.Prefix.{Net}
use Rattle.export_core.specs.declared.log.LogItem.{LogItem}
use Rattle.import_core.specs.Importers.{Importing}
use Rattle.jour_rule.specs.declared.views.Entry.{Entry}
use Rattle.jour_rule.specs.declared.views.View.{View as Seat}
use Rattle.jour.specs.Seats.{front, journal, number_of, own}
use Rattle.core_setup.specs.Announced.{IsOfFamily}
use Rattle.core_setup.specs.Reports.{dones}
use Rattle.core_setup.specs.Setup.{Source}
use Rattle.phase_legal.specs.Changes.{AreMade, changes_in, given}
use Rattle.phase_legal.specs.Shown.{HandView}
use Rattle.phase_legal.specs.Stamps.{AreFrom, AreStamps, items_in, notices_from}
use Rattle.phase_legal.specs.Turns.{AreByHands, place_of}
use Rattle.import_lock.specs.Kept.{IsImporter, items_of_stamp}
use Rattle.import_lock.specs.Terms.{AreTerms, ImportTerms, ops_told, past_ops, rules_in}
use Rattle.import_lock.specs.declared.state.OpRecord.{OpRecord}
use Rattle.table_shared.specs.Opening.{TableOpening}
use Rattle.export_lock.specs.Kept.{IsExports}
use Rattle.export_lock.specs.Terms.{ExportTerms}
use Rattle.export_lock.specs.declared.state.ExportState.{ExportState}
use Rattle.phase_close.specs.Retired.{IsRetired}
use Rattle.phase_close.specs.declared.protocol.ProtocolLeft.{ProtocolLeft}
use Rattle.phase_close.specs.declared.session.SessionLeft.{SessionLeft}

-- all turns of a protocol: what hands say of them, and their records
pub record AreAllTurns
    (key : ImportTerms) (list : List Entry) (hands : List HandView) (ops : List OpRecord)
    : Type 0 where
  pub by_hands : AreByHands key.phase.lines key.phase.starter list
  pub retired : AllByRecursion (IsRetired key.turns list) hands
  pub lines : map (λ r. r.line) ops ≡ map place_of list
  pub over :
      map (λ r. r.over) ops
      ≡ reverse (map (λ d. d.over) (dones (rules_in key) key.number (past_ops key)
      (ops_told key list)))

-- what the turns give is these changes
abbrev pub Gave : ImportTerms → List Entry → List (ℕ × Change) → Type 0
Gave key list made =
    given (rules_in key) key.number (past_ops key) (ops_told key list)
    ≡ reverse (changes_in made)

-- the marks of a phase say all that the turns signal
pub record AreMarks
    (key : ImportTerms) (list : List Entry) (made : List (ℕ × Change)) (marks : List LogItem)
    : Type 0 where
  pub are :
      AreStamps (rules_in key) key.number (past_ops key) None made marks
      (notices_from (rules_in key) key.number (past_ops key) (ops_told key list))
  pub behind : AreFrom key.port.1.start marks

-- and so do those of a stamp
abbrev pub IsStampLeft :
    ImportTerms → List Entry → List (ℕ × Change) → TableId × Seat ℕ → Type 0
IsStampLeft key list made stamp =
    (number_of stamp.1.role ≡ 0) × AreMarks key list made (items_of_stamp stamp)

module _ {J : Type 0} (verdict : J → Net → Route → Verdict) where
  -- An importer behind these turns, whose records these are, and a port that has made these changes.
  pub record IsImportLeft
      (key : ImportTerms) (hands : List HandView) (importer : Importing J) (ops : List OpRecord)
      (port : TableId × Seat TableOpening) (list : List Entry) (made : List (ℕ × Change))
      : Type 0 where
    pub source : Source
    pub terms : AreTerms key source
    pub turns : AreAllTurns key list hands ops
    pub importer_is : IsImporter verdict source (ops_told key list ++ past_ops key) importer
    pub family : AllByRecursion (IsOfFamily key.port.1.opening.family) (ops_told key list)
    pub port_is : journal port ≡ key.port
    pub port_number : number_of port.1.role ≡ key.port_number
    pub says : AreMade (own port.1) made
    pub gave : Gave key list made

  pub record IsProtocolLeft
      (key : ImportTerms) (hands : List HandView) (left : ProtocolLeft J) : Type 0 where
    pub list : List Entry
    pub made : List (ℕ × Change)
    pub imports : IsImportLeft key hands left.importer left.ops.items left.port list made
    pub marks : option_map journal left.stamp ≡ key.marks
    pub stamped : IfSome left.stamp (IsStampLeft key list made)

  -- A channel to a neighbour, and its marks of the phase.
  pub record IsChannelLeft
      (key : ImportTerms) (list : List Entry) (made : List (ℕ × Change)) (channel : ExportTerms)
      (state : ExportState J) : Type 0 where
    pub exports : IsExports verdict channel state
    pub are : AreMarks key list made (items_in (front state.marks.1))

  -- where there is one
  abbrev pub AreOpen : Option ExportTerms → Option (ExportState J) → Type 0
  AreOpen None None = ⊤
  AreOpen (Some channel) (Some state) = IsExports verdict channel state
  AreOpen _ _ = ⊥

  abbrev pub AreChannelsLeft :
      ImportTerms → List Entry → List (ℕ × Change) → Option ExportTerms → Option (ExportState J)
      → Type 0
  AreChannelsLeft key list made None None = ⊤
  AreChannelsLeft key list made (Some channel) (Some state) =
      IsChannelLeft key list made channel state
  AreChannelsLeft key list made _ _ = ⊥

  pub record IsSessionLeft
      (key : ImportTerms) (channel : Option ExportTerms) (hands : List HandView)
      (left : SessionLeft J) : Type 0 where
    pub list : List Entry
    pub made : List (ℕ × Change)
    pub imports : IsImportLeft key hands left.importer left.ops.items left.port list made
    pub channels : AreChannelsLeft key list made channel left.channel
