mod Window
