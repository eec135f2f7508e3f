-- `linked::rukeshomaji_sheet` meets its contract. Assumes nothing.
use Rattle.linked.proofs.Replies.{sheet_replies}
use Rattle.linked.proofs.rukeshomaji_sheet.Goals as goal

pub returns : goal.returns
returns c = sheet_replies c.args.sheet.now c.put_in_array-put.result c.put_in_array-put.ensures c.said-number.ensures
