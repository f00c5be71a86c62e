pub mod SheetStores
