mod Narrowed
