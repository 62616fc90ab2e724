use Rattle.std.proofs.Common.{◌++◌, codes, decimal}
use Rattle.std.specs.List.{flat_map}
use Rattle.report.specs.Report.{channel_text, export_text, journal_text, mode_line, names_of, protocol_text, reply_block, table_text}
use Rattle.report.proofs.Forms.{quiet_parts, whole_parts}
use Rattle.report.proofs.laws.quiet_texts_leave_out_what_came_about.Goals as goal

pub returns : goal.returns
returns c = λ phase. (
  flat_map protocol_text phase.protocols ++ flat_map (journal_text (names_of phase)) phase.journals ++ flat_map (channel_text (names_of phase)) phase.channels ++ flat_map reply_block phase.replies,
  flat_map (table_text (names_of phase)) phase.tables ++ flat_map mode_line phase.modes ++ flat_map (export_text (names_of phase)) phase.exports,
  whole_parts (codes "phase ") (decimal phase.number) (codes "\n") (flat_map protocol_text phase.protocols) (flat_map (journal_text (names_of phase)) phase.journals)
      (flat_map (channel_text (names_of phase)) phase.channels) (flat_map reply_block phase.replies) (codes "state\n") (flat_map (table_text (names_of phase)) phase.tables)
      (flat_map mode_line phase.modes) (flat_map (export_text (names_of phase)) phase.exports),
  quiet_parts (codes "phase ") (decimal phase.number) (codes "\n") (codes "state\n") (flat_map (table_text (names_of phase)) phase.tables)
      (flat_map mode_line phase.modes) (flat_map (export_text (names_of phase)) phase.exports),
)
