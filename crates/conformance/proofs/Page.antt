-- 01's page of case 3: the definitions, computed.
use mathlib.Core.Path.{refl}
use Rattle.words.specs.Bytes.{halfword_at, word_at}
use Rattle.words.specs.Refusal.{lower}
use Rattle.cursor.specs.Cursor.{pair_at}
use Rattle.header.specs.Header.{header_of, sizes_fit, code_at, constants_at, relocation_at, versions_at, sources_at, record_length}
use Rattle.header.specs.Header.{code_of}
use Rattle.version.specs.Issue.{wraps, issue_of, later_words}
use Rattle.version.specs.Version.{issue_at, version_sound}
use Rattle.source.specs.Source.{source_offsets, source_sound, line_at}
use Rattle.entries.specs.Entries.{entry_at, entry_count, count_sound, entries_in_order, entries_sound, region_end}
use Rattle.entries.specs.Libraries.{library_in}
use Rattle.record.specs.Number.{record_number, reading_of}
use Rattle.module_set.specs.Linked.{records_number, linked}
use Rattle.module_set.specs.Members.{number_of, resolved}
use Rattle.operand.specs.Operand.{extended}
use Rattle.opcode.specs.Decode.{instruction_at, decode_in, decode_at}
use Rattle.opcode.specs.Length.{length_in, length_at}
use Rattle.opcode.specs.Table.{row_of}
use Rattle.shape.specs.Shape.{shape_of}
use Rattle.relocation.specs.Places.{library_places}
use Rattle.relocation.specs.Relocation.{relocation_sound, set_number, relocated, copy_of}
use Rattle.operate.specs.Arithmetic.{signed_value}
use Rattle.operate.specs.Operation.{operation_value}
use Rattle.operate.specs.Value.{signed_word}
use Rattle.registers.specs.Memory.{live, above_zero, link_words}
use Rattle.registers.specs.Modules.{number_at}
use Rattle.effect.specs.Data.{load_effect}
use Rattle.control.specs.Control.{call_external_effect}
use Rattle.execute.specs.Execute.{execute}
use Rattle.state.specs.Fits.{sizes_taken, header_kept, registers_fit, fits, ordered, bounded}
use Rattle.load.specs.Load.{constant_words, initial_data, loaded_memory, start_of, frame_words, set_load_number, set_load}
use Rattle.load.specs.Modules.{modules_of}
use Rattle.step.specs.Step.{apply, perform, step_of}
use Rattle.run.specs.Run.{set_run_number, set_run}
use Rattle.layout.specs.Cut.{cut_of}
use Rattle.faults.specs.Faults.{strays, misplaced, uncallable, anywhere, code_number}
use Rattle.stackmap.specs.StackMap.{ways_at}
use Rattle.stackmap.specs.Walk.{visited, walk_of}
use Rattle.stackmap.specs.Ways.{ways}
use Rattle.verifier.specs.Check.{results_sound, list_number, verdict_of, libraries_of, cut_number, codes_number, set_check}
use Rattle.joined.specs.Joined.{joined_of}
use Rattle.text.specs.Text.{width, decimal, numbered, check_line, end_line, list_line}
use Rattle.run_file.specs.RunFile.{results_of, parameters_of, budget_of, memory_words, stack_words, record_of, well_formed}
use Rattle.report.specs.Report.{ended_text, text_of}
use Rattle.conformance.specs.Page.{run_file3, page_of_case3, PageOfCase3}

pub page-of-case-3 : PageOfCase3
unfolding halfword_at word_at entry_at entry_count count_sound entries_in_order entries_sound region_end header_of sizes_fit code_at constants_at relocation_at versions_at sources_at record_length code_of record_number reading_of source_offsets source_sound issue_at version_sound instruction_at decode_in decode_at length_in length_at extended row_of signed_value operation_value signed_word load_effect live execute sizes_taken header_kept registers_fit fits constant_words initial_data loaded_memory start_of apply perform step_of shape_of cut_of strays misplaced uncallable anywhere code_number ways ways_at visited walk_of results_sound list_number verdict_of joined_of results_of parameters_of budget_of memory_words stack_words record_of well_formed pair_at line_at width decimal numbered check_line end_line list_line ended_text text_of run_file3 page_of_case3 records_number linked library_places relocation_sound set_number relocated copy_of number_of resolved modules_of number_at frame_words set_load_number set_load ordered bounded set_run_number set_run libraries_of cut_number codes_number set_check library_in lower above_zero link_words wraps issue_of later_words call_external_effect
page-of-case-3 = refl
