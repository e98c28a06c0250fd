use Rattle.std.proofs.Common.{◌∙◌, subst}
use Rattle.std.specs.Str.{IsUtf8}
use Rattle.command_words.proofs.Readings.{word_fails, texts_more, utf8_more}
use Rattle.command_words.proofs.reading.texts.Goals as goal

pub returns-in-Err : goal.returns-in-Err
returns-in-Err c =
    word_fails c.args.words.now c.loop-word.word-index c.word-item.result c.as_slice.result.now c.loop-word-test.true c.word-item.is
    c.as_slice.ensures.value c.in-Err.ensures.cases.0

pub loop-word-preserved : goal.loop-word-preserved
loop-word-preserved c =
    let words = c.args.words.now in
    let same = c.in-Ok.ensures.cases.0 ∙ c.as_slice.ensures.value in
    record {
      texts = texts_more words c.loop-word.word-index c.word-item.result c.loop-word-test.true c.word-item.is c.loop-word.texts.items _ c.in-Ok.text
          c.in_ok-push-in-Ok.ensures.items same c.loop-word.invariant.texts;
      utf8 = utf8_more words c.loop-word.word-index c.word-item.result c.loop-word-test.true c.word-item.is
          (subst IsUtf8 c.as_slice.ensures.value c.in-Ok.ensures.cases.1) c.loop-word.invariant.utf8;
    }
