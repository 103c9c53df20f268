pub mod TestedLists
